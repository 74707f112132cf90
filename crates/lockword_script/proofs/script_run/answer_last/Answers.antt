use Rattle.std.proofs.Common.{refl}
use Rattle.lockword_script.proofs.EventLemmas.{state_after_more}
use Rattle.lockword_script.proofs.script_run.answer_last.Goals as goal

pub loop-done-preserved : goal.loop-done-preserved
loop-done-preserved c =
    state_after_more c.args.machine.now c.loop-done.machine c.step.new.self c.in_ok-step.field-0 c.args.order.first
    c.loop-done.done _ c.args.order.op c.loop-done.invariant refl c.in_ok-step.ensures.ok
