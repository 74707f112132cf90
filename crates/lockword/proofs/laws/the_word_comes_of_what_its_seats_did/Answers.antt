use Rattle.lockword.proofs.RuleLaws.{comes_of_deeds}
use Rattle.lockword.proofs.laws.the_word_comes_of_what_its_seats_did.Goals as goal

pub returns : goal.returns
returns g c s fields read = comes_of_deeds s fields read
