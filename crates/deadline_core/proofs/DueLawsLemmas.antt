-- What follows for timers from what a map has at a slot.
use Rattle.std.proofs.Common.{◌≡◌, ℕ, ◌<◌, ◌≤◌, inl, inr, Bool, true, false, cond, List, [], ◌∷◌, length, refl, sym, ap}
use Rattle.std.proofs.Common.{◌∙◌, subst, Some, None, arith}
use Rattle.std.specs.List.{Contains}
use Rattle.std.proofs.lemmas.List.Elements.{All-contains, Contains-push, Contains-append_left, Contains-append_right}
use Rattle.std.proofs.lemmas.List.Elements.{Contains-append_cases, Contains-push_cases}
use Rattle.std.proofs.lemmas.Map.Views.{tells_apart}
use Rattle.std.specs.Ordering.{eq_by_cmp}
use Rattle.std.specs.Cmp.{eq_by_cmp_equiv}
use Rattle.std.specs.FinMap.{get, insert, remove, get-insert, get-remove, same_map}
use Rattle.deadline_core.specs.DueOrder.{Slot, slot_cmp}
use Rattle.deadline_core.specs.Timers.{Armed, remove_all, IsDue, AreFirstDue}
use Rattle.deadline_core.proofs.TimersLemmas.{slots_total, exact_slots}
use Rattle.deadline_core.proofs.DueLemmas.{remaining_gives}

get_armed : (armed : Armed) (slot : Slot) (at : ℕ) → get (insert armed slot at) slot ≡ Some at
get_armed armed slot at = get-insert slots_total armed slot at slot ∙
    ap (λ b. cond b (Some at) (get armed slot)) ((eq_by_cmp_equiv slots_total).refl slot)

get_disarmed : (armed : Armed) (slot : Slot) → get (remove armed slot) slot ≡ None
get_disarmed armed slot = get-remove slots_total armed slot slot ∙
    ap (λ b. cond b None (get armed slot)) ((eq_by_cmp_equiv slots_total).refl slot)

-- a timer that is armed for a later moment isn't given
pub waits : (armed : Armed) (slot : Slot) (at now : ℕ) (given : List Slot) → now < at →
    AreFirstDue (insert armed slot at) now given → Contains given slot → ⊥
waits armed slot at now given before first has =
    let due = All-contains (IsDue (insert armed slot at) now) given slot first.due has in
    let both : Some at ≡ Some due.0 = sym (get_armed armed slot at) ∙ due.1 in
    let same : at ≡ due.0 = cc both in
    let come : due.0 ≤ now = due.2 in
    absurd (omega (arith, same, come, before))

covered : {A : Type 0} (b : Bool) (x y z : A) → cond b x (cond b y z) ≡ cond b x z
covered true x y z = refl
covered false x y z = refl

-- to arm a timer again is to arm it
pub replaced : (armed : Armed) (slot : Slot) (former at : ℕ) →
    insert (insert armed slot former) slot at ≡ insert armed slot at
replaced armed slot former at = same_map slots_total exact_slots _ _ (λ q.
    get-insert slots_total (insert armed slot former) slot at q
    ∙ ap (cond (eq_by_cmp slot_cmp q slot) (Some at)) (get-insert slots_total armed slot former q)
    ∙ covered (eq_by_cmp slot_cmp q slot) _ _ _
    ∙ sym (get-insert slots_total armed slot at q))

pub rearmed_waits : (armed : Armed) (slot : Slot) (former at now : ℕ) (given : List Slot) → former ≤ now → now < at
    → AreFirstDue (insert (insert armed slot former) slot at) now given → Contains given slot → ⊥
rearmed_waits armed slot former at now given come before first has =
    waits (insert armed slot former) slot at now given before first has

pub silent : (armed : Armed) (slot : Slot) (now : ℕ) (given : List Slot) → AreFirstDue (remove armed slot) now given →
    Contains given slot → ⊥
silent armed slot now given first has =
    let due = All-contains (IsDue (remove armed slot) now) given slot first.due has in
    let both : None ≡ Some due.0 = sym (get_disarmed armed slot) ∙ due.1 in
    cc both

none_stays : (given : List Slot) (armed : Armed) (slot : Slot) → get armed slot ≡ None →
    get (remove_all armed given) slot ≡ None
none_stays given armed slot none =
    elim (get (remove_all armed given) slot) as (λ o. get (remove_all armed given) slot ≡ o → o ≡ None) [
      | None ↦ λ is. refl
      | Some at ↦ λ is. absurd (let both : None ≡ Some at = sym none ∙ remaining_gives given armed slot at is in
          cc both)
    ] refl

-- the one element of a list
pub only : (one slot : Slot) → Contains (one ∷ []) slot → one ≡ slot
only one slot has = elim (Contains-push_cases [] one slot has)
    [ inl none ↦ absurd (omega (arith, none.1)) | inr same ↦ same ]

-- a list has its head
pub here_given : (one : Slot) (given : List Slot) (slot : Slot) → one ≡ slot → Contains (one ∷ given) slot
here_given one given slot same = subst (Contains (one ∷ given)) same
    (Contains-append_left (one ∷ []) given one (Contains-push [] one))

-- what was given is armed no more
pub given_gone : (armed : Armed) (given : List Slot) (slot : Slot) → Contains given slot →
    get (remove_all armed given) slot ≡ None
given_gone armed [] slot has = absurd (omega (arith, has.1))
given_gone armed (one ∷ given) slot has =
    elim (Contains-append_cases (one ∷ []) given slot has) [
      | inl here ↦ none_stays given (remove armed one) slot
          (ap (get (remove armed one)) (sym (only one slot here)) ∙ get_disarmed armed one)
      | inr later ↦ given_gone (remove armed one) given slot later
    ]

-- what was not given is armed as before
pub others_stay : (armed : Armed) (given : List Slot) (slot : Slot) → (Contains given slot → ⊥) →
    get (remove_all armed given) slot ≡ get armed slot
others_stay armed [] slot apart = refl
others_stay armed (one ∷ given) slot apart =
    others_stay (remove armed one) given slot (λ has. apart (Contains-append_right (one ∷ []) given slot has))
    ∙ get-remove slots_total armed one slot
    ∙ elim (eq_by_cmp slot_cmp slot one) as (λ b. eq_by_cmp slot_cmp slot one ≡ b →
    cond b None (get armed slot) ≡ get armed slot) [
      | true ↦ λ is. absurd (apart (here_given one given slot (sym (tells_apart exact_slots slot one is))))
      | false ↦ λ is. refl
    ] refl

pub all_due : (armed : Armed) (now : ℕ) (given : List Slot) (slot : Slot) → AreFirstDue armed now given →
    length given < 256 → IsDue (remove_all armed given) now slot → ⊥
all_due armed now given slot first fewer due = let full = first.no_fewer_if_more_are_due slot due in
    absurd (omega (arith, full, fewer))
