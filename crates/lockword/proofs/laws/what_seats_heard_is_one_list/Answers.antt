use Rattle.lockword.proofs.Words.{List, Event, subst, sym}
use Rattle.lockword.proofs.HeardSteps.{comparable, goes_further, goes_on_on}
use Rattle.lockword.specs.History.{GoesOn}
use Rattle.lockword.proofs.laws.what_seats_heard_is_one_list.Goals as goal

pub returns-clause-beginning : goal.returns-clause-beginning
returns-clause-beginning g c s seat v reached at = reached.heard.each seat v at

pub returns-clause-comparable : goal.returns-clause-comparable
returns-clause-comparable g c s one other v w reached at there =
    comparable v.heard w.heard reached.history (reached.heard.each one v at) (reached.heard.each other w there)

pub returns-clause-made : goal.returns-clause-made
returns-clause-made g c o a v w made =
    subst (λ (h : List Event). GoesOn v.heard h) (sym made.heard)
    (goes_further v.heard made.history record { holder = made.seat; op = o } made.goes_on)

pub returns-clause-none_refused : goal.returns-clause-none_refused
returns-clause-none_refused g c o a v w made = made.none_refused

pub returns-clause-looked : goal.returns-clause-looked
returns-clause-looked g c p q fields looks = looks.heard.goes_on

pub returns-clause-chained : goal.returns-clause-chained
returns-clause-chained g c a b d early late = goes_on_on a b d early late
