use Rattle.std.proofs.Common.{sym, ap, subst, ◌∙◌}
use Rattle.base_types.specs.declared.direction.Dir.{Dir}
use Rattle.lockword_core.specs.declared.stake.Op.TheVariants as op
use Rattle.lockword_core.specs.declared.stake.Stake.TheVariants as stake
use Rattle.lockword_core.specs.declared.stake.Answer.TheVariants as answer
use Rattle.lockword.specs.History.{IsMade}
use Rattle.fdmutex.proofs.Hearing.{made_so}
use Rattle.fdmutex.proofs.locks.signal.Goals as goal

pub returns-in-Signalled-clause-did : goal.returns-in-Signalled-clause-did
returns-in-Signalled-clause-did g c =
    made_so _ _ _ _ _ c.loop.invariant.1
    (c.loop.owing.stake ∙ ap (λ (d : Dir). stake.Owes d) c.loop.invariant.2 ∙ sym c.args.owing.stake)
    c.loop.invariant.0.1 c.loop.invariant.3
    (subst (λ (d : Dir). IsMade (op.Signal d) answer.Signalled c.loop.owing.place.me.0 c.in-Signalled.seat.place.me.0)
    c.loop.invariant.2 c.in-Signalled.ensures.1)
