use Rattle.relay_workers.proofs.LawsLemmas.{bytes_pass_in_order}
use Rattle.relay_workers.proofs.laws.bytes_pass_in_order.Goals as goal

pub returns : goal.returns
returns c = bytes_pass_in_order
