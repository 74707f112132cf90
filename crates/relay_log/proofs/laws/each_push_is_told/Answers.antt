use Rattle.relay_log.proofs.RunLemmas.{each_push_is_told}
use Rattle.relay_log.proofs.laws.each_push_is_told.Goals as goal

pub returns : goal.returns
returns c = each_push_is_told
