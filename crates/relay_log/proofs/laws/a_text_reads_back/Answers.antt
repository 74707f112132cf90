use Rattle.relay_log.proofs.JsonLemmas.{each_text_is_spelled}
use Rattle.relay_log.proofs.laws.a_text_reads_back.Goals as goal

pub returns : goal.returns
returns c = each_text_is_spelled
