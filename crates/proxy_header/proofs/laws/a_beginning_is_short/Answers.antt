use Rattle.proxy_header.proofs.OneAnswers.{begun_is_short}
use Rattle.proxy_header.proofs.laws.a_beginning_is_short.Goals as goal

pub returns : goal.returns
returns c = begun_is_short
