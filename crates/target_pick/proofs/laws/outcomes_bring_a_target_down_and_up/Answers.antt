use Rattle.target_pick.proofs.Healths.{failures_bring_down, passes_bring_up}
use Rattle.target_pick.proofs.laws.outcomes_bring_a_target_down_and_up.Goals as goal

pub returns : goal.returns
returns c = record { down = failures_bring_down; up = passes_bring_up }
