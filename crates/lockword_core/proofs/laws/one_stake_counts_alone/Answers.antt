use Rattle.lockword_core.proofs.CountLemmas.{count-set, changes-set, count-push, changes-insert}
use Rattle.lockword_core.proofs.laws.one_stake_counts_alone.Goals as goal

pub returns-clause-seat : goal.returns-clause-seat
returns-clause-seat c what stakes i new inside = count-set what stakes i new inside

pub returns-clause-changes_seat : goal.returns-clause-changes_seat
returns-clause-changes_seat c stakes i new inside = changes-set stakes i new inside

pub returns-clause-new_seat : goal.returns-clause-new_seat
returns-clause-new_seat c what stakes = count-push what stakes

pub returns-clause-changes_holder : goal.returns-clause-changes_holder
returns-clause-changes_holder c s holder new good = changes-insert s.holders holder new good.names
