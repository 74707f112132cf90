use Rattle.rwloops.proofs.UnderWayLemmas.{parts_are_one_read}
use Rattle.rwloops.proofs.laws.parts_of_a_read_are_one_read.Goals as goal

pub returns : goal.returns
returns c = parts_are_one_read
