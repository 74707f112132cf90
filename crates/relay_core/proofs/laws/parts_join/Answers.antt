use Rattle.relay_core.proofs.PassingLawsLemmas.{parts_join, last_part_joins}
use Rattle.relay_core.proofs.laws.parts_join.Goals as goal

pub returns : goal.returns
returns g c = record { more = parts_join _ _ _; last = last_part_joins _ _ _ }
