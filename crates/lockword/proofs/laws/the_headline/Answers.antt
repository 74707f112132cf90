use Rattle.lockword.proofs.HeadlineLemmas.{the_headline, stood}
use Rattle.lockword.proofs.laws.the_headline.Goals as goal

pub returns-clause-always : goal.returns-clause-always
returns-clause-always g c s reached = the_headline s reached

pub returns-clause-shown : goal.returns-clause-shown
returns-clause-shown g c fields v shown = stood fields v shown
