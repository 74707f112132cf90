use Rattle.rwloops.proofs.AcceptLemmas.{accept_decisive_is_newest}
use Rattle.rwloops.proofs.laws.decisive_try_ends_an_accept.Goals as goal

pub returns : goal.returns
returns g c = λ tries newer older made calls result. accept_decisive_is_newest tries calls result newer older made
