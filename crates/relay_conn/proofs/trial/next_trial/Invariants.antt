use Rattle.target_pick.specs.Tried.{KeepsTried, untried}
use Rattle.relay_conn.proofs.trial.next_trial.Given as goal

-- what was tried before the walk is tried still
abbrev pub invariant-loop-picked : goal.invariant-loop-picked
invariant-loop-picked g l = KeepsTried l.fn.tried l.walk.tried

-- each target that can't be dialled is one fewer that wasn't tried
abbrev pub decreases-loop-picked : goal.decreases-loop-picked
decreases-loop-picked g l = untried l.walk.tried
