use Rattle.relay_shared.proofs.RequestsLemmas.{numbers_are_given_once}
use Rattle.relay_shared.proofs.laws.numbers_are_given_once.Goals as goal

pub returns : goal.returns
returns c = numbers_are_given_once
