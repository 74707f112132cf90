use Rattle.lockword.proofs.RuleLaws.{one_last, no_last, no_reference, no_lock, only_closed}
use Rattle.lockword.proofs.laws.the_last_seat_destroys.Goals as goal

pub returns-clause-one_last : goal.returns-clause-one_last
returns-clause-one_last g c s fields read = one_last s fields read

pub returns-clause-no_last : goal.returns-clause-no_last
returns-clause-no_last g c s reached done = no_last s reached done

pub returns-clause-no_reference : goal.returns-clause-no_reference
returns-clause-no_reference g c s reached done = no_reference s reached done

pub returns-clause-no_lock : goal.returns-clause-no_lock
returns-clause-no_lock g c s d reached done = no_lock s d reached done

pub returns-clause-only_closed : goal.returns-clause-only_closed
returns-clause-only_closed g c s fields read done = only_closed s fields read done
