use Rattle.relay_core.proofs.PassingLawsLemmas.{nothing_is_lost, bytes_pass_in_parts}
use Rattle.relay_core.proofs.laws.bytes_pass_in_parts.Goals as goal

pub returns : goal.returns
returns g c = record { kept = nothing_is_lost _; whole = bytes_pass_in_parts _ }
