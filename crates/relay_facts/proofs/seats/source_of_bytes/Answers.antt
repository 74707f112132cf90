use Rattle.std.proofs.Common.{refl}
use Rattle.relay_facts.proofs.seats.source_of_bytes.Goals as goal

pub returns : goal.returns
returns c = (c.from_octets-address.result, c.from_octets-address.ensures, c.of.ensures _ refl)
