use Rattle.relay_workers.proofs.WholeWriteLemmas.{whole_copy}
use Rattle.relay_workers.proofs.laws.whole_writes_make_rounds.Goals as goal

pub returns : goal.returns
returns g c = λ first last old new reads ended part. whole_copy part
