use Rattle.rwloops.proofs.ReadLemmas.{read_decisive_is_newest}
use Rattle.rwloops.proofs.laws.decisive_try_ends_a_read.Goals as goal

pub returns : goal.returns
returns c = λ buffer tries newer older made calls result. read_decisive_is_newest buffer tries calls result newer older
    made
