use Rattle.deadline_core.proofs.MomentLemmas.{moves_on}
use Rattle.deadline_core.proofs.laws.a_later_moment_is_covered_too.Goals as goal

pub returns : goal.returns
returns c = record { covered = moves_on }
