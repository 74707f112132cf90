-- The addresses stay as they are, and each turn tries one more.
use Rattle.std.proofs.Common.{◌≡◌, ◌-◌, length}
use Rattle.net.specs.Attempts.{addrs_of, tried_of}
use Rattle.net.proofs.dialing.dial_in_turn.Given as goal

abbrev pub invariant-loop-attempt : goal.invariant-loop-attempt
invariant-loop-attempt g l = addrs_of l.attempts ≡ addrs_of l.fn.attempts

abbrev pub decreases-loop-attempt : goal.decreases-loop-attempt
decreases-loop-attempt g l = length (addrs_of l.attempts) - tried_of l.attempts
