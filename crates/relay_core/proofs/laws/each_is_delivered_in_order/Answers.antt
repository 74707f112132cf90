use Rattle.relay_core.proofs.LawsLemmas.{each_is_delivered_in_order}
use Rattle.relay_core.proofs.laws.each_is_delivered_in_order.Goals as goal

pub returns : goal.returns
returns g c = each_is_delivered_in_order _
