use Rattle.relay_workers.proofs.LawsLemmas.{full_book_tells_the_last_write}
use Rattle.relay_workers.proofs.laws.full_book_tells_the_last_write.Goals as goal

pub returns : goal.returns
returns c = full_book_tells_the_last_write
