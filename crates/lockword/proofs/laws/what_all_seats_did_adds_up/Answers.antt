use Rattle.lockword.proofs.RuleLaws.{seats_add_up}
use Rattle.lockword.proofs.laws.what_all_seats_did_adds_up.Goals as goal

pub returns : goal.returns
returns g c = record { adds_up = λ s fields read. seats_add_up s fields read }
