use Rattle.std.proofs.Common.{sym, ◌∙◌}
use Rattle.fdmutex.proofs.Hearing.{made_so}
use Rattle.fdmutex.proofs.reference.incref.Goals as goal

pub returns-in-Held-clause-did : goal.returns-in-Held-clause-did
returns-in-Held-clause-did g c =
    made_so _ _ _ _ _ c.loop.invariant.1 (c.loop.seat.stake ∙ sym c.args.seat.stake) c.loop.invariant.0.1
    c.loop.invariant.2 c.in-Held.ensures.1
