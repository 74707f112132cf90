use Rattle.log_writer.proofs.RunLemmas.{the_last_batch_tells_the_rest}
use Rattle.log_writer.proofs.laws.the_last_batch_tells_the_rest.Goals as goal

pub returns : goal.returns
returns c = the_last_batch_tells_the_rest
