use Rattle.client_sources.proofs.Ended.{no_more_stand}
use Rattle.client_sources.proofs.laws.of_no_source_more_stand_than_may.Goals as goal

pub returns : goal.returns
returns c = no_more_stand
