use Rattle.std.proofs.Common.{sym, ◌∙◌}
use Rattle.fdmutex.proofs.Hearing.{made_so}
use Rattle.fdmutex.proofs.locks.await_signal.Goals as goal

pub returns-in-Woken-clause-did : goal.returns-in-Woken-clause-did
returns-in-Woken-clause-did g c =
    made_so _ _ _ _ _ c.loop.invariant.1 (c.loop.wait.stake ∙ sym c.args.wait.stake) c.loop.invariant.0.1
    c.loop.invariant.2 c.in-Woken.ensures.1
