use Rattle.std.proofs.Common.{rules, sym, ◌∙◌}
use Rattle.lockword.proofs.HeardSteps.{goes_on_on}
use Rattle.fdmutex.proofs.Hearing.{close_heard, close_told, lost_again}
use Rattle.fdmutex.proofs.close.take_over.Goals as goal

pub returns-in-Ok-clause-heard : goal.returns-in-Ok-clause-heard
returns-in-Ok-clause-heard g c =
    close_heard c.args.seat c.loop.seat c.try_close.result c.in-Ok.answer c.loop.invariant.2 c.try_close.ensures
    (sym c.answer_of.ensures ∙ c.in-Ok.is)

pub returns-in-Ok-clause-told : goal.returns-in-Ok-clause-told
returns-in-Ok-clause-told g c =
    close_told c.args.seat c.loop.seat c.try_close.result c.in-Ok.answer c.loop.invariant.2 c.try_close.ensures
    (sym c.answer_of.ensures ∙ c.in-Ok.is)

pub loop-preserved : goal.loop-preserved
loop-preserved g c =
    let lost = lost_again c.loop.seat c.in-Err.back c.try_close.result c.try_close.ensures
    (sym c.answer_of.ensures ∙ c.in-Err.is) in
    (search rules, search rules, goes_on_on _ _ _ c.loop.invariant.2 lost.1.1)
