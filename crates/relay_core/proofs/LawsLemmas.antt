-- What accepts delivered, and how long pauses are.
use Rattle.std.proofs.Common.{◌≡◌, ap, refl, zero, suc, List, ◌∷◌, [], Result, Ok, Err, arith, pow-suc}
use Rattle.rwloops.specs.declared.fault.Fault.{Fault}
use Rattle.relay_core.specs.AcceptTrace.{turn_calls}
use Rattle.relay_core.specs.Laws.{accepted, delivered, EachIsDeliveredInOrder, PausesAreCapped}

turns_deliver : {T : Type 0} (answers : List (Result T Fault))
    → delivered (turn_calls answers) ≡ accepted (turn_calls answers)
turns_deliver [] = refl
turns_deliver (Ok taken ∷ earlier) = ap (λ rest. taken ∷ rest) (turns_deliver earlier)
turns_deliver (Err fault ∷ earlier) = turns_deliver earlier

pub each_is_delivered_in_order : (T : Type 0) → EachIsDeliveredInOrder T
each_is_delivered_in_order T calls ended trace = rw trace.in_order (turns_deliver trace.answers)

pub pauses_are_capped : PausesAreCapped
pauses_are_capped zero = refl
pauses_are_capped (suc faults) =
    let before = pauses_are_capped faults in
    let doubled = pow-suc 2 faults in
    omega (arith, before, doubled)
