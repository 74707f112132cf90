use Rattle.rwloops.proofs.PartialWriteLemmas.{write_decisive_is_newest}
use Rattle.rwloops.proofs.laws.decisive_try_ends_a_write.Goals as goal

pub returns : goal.returns
returns c = λ bytes tries newer older made calls result. write_decisive_is_newest bytes tries calls result newer older
    made
