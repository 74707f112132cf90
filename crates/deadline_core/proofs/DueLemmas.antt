-- Which timer fires first, which fire after it, and what is left once some are taken out.
use Rattle.std.proofs.Common.{◌≡◌, ℕ, ◌+◌, ◌<◌, ◌≤◌, inl, inr, Bool, true, false, cond, List, [], ◌∷◌, ◌++◌, length}
use Rattle.std.proofs.Common.{refl, sym, ap, subst, ◌∙◌, Option, Some, None, arith, length-append}
use Rattle.std.specs.List.{All, AllPairs}
use Rattle.std.proofs.lemmas.List.Elements.{All-push}
use Rattle.std.proofs.lemmas.List.Quantifiers.{all_pairs_push}
use Rattle.std.specs.Ordering.{eq_by_cmp}
use Rattle.std.specs.Cmp.{IsTotalOrder, nat_cmp_total, eq_by_cmp_equiv}
use Rattle.std.proofs.lemmas.Cmp.{on_total, then_total}
use Rattle.std.specs.FinMap.{get, remove, get-remove}
use Rattle.deadline_core.specs.DueOrder.{Slot, slot_cmp, entry_cmp, Before}
use Rattle.deadline_core.specs.Timers.{Armed, remove_all, IsDue, FiresBefore, AreFirstDue}
use Rattle.deadline_core.specs.TimerOrder.{IsFirstOf}
use Rattle.deadline_core.proofs.TimersLemmas.{slots_total}

-- the order in which timers fire is total
pub entries_total : IsTotalOrder entry_cmp
entries_total = then_total (on_total (λ (e : Slot × ℕ). e.1) nat_cmp_total)
    (on_total (λ (e : Slot × ℕ). e.0) slots_total)

-- Taking out one after the other

removed_gives : (b : Bool) (o : Option ℕ) (at : ℕ) → cond b None o ≡ Some at → (b ≡ false) × (o ≡ Some at)
removed_gives true o at h = absurd (let no : None ≡ Some at = h in cc)
removed_gives false o at h = (refl, h)

-- what is armed after one is taken out was armed before, and isn't that one
pub left_gives : (armed : Armed) (slot q : Slot) (at : ℕ) → get (remove armed slot) q ≡ Some at →
    (eq_by_cmp slot_cmp q slot ≡ false) × (get armed q ≡ Some at)
left_gives armed slot q at h = removed_gives _ _ at (sym (get-remove slots_total armed slot q) ∙ h)

-- what is armed after some are taken out was armed before
pub remaining_gives : (taken : List Slot) (armed : Armed) (q : Slot) (at : ℕ) →
    get (remove_all armed taken) q ≡ Some at → get armed q ≡ Some at
remaining_gives [] armed q at h = h
remaining_gives (slot ∷ taken) armed q at h = (left_gives armed slot q at
    (remaining_gives taken (remove armed slot) q at h)).1

remove_all_push : (taken : List Slot) (armed : Armed) (slot : Slot) →
    remove_all armed (taken ++ slot ∷ []) ≡ remove (remove_all armed taken) slot
remove_all_push [] armed slot = refl
remove_all_push (one ∷ taken) armed slot = remove_all_push taken (remove armed one) slot

not_itself : (slot other : Slot) → eq_by_cmp slot_cmp slot other ≡ false → slot ≡ other → ⊥
not_itself slot other differ same =
    let itself : eq_by_cmp slot_cmp slot other ≡ true = rw same ((eq_by_cmp_equiv slots_total).refl other) in
    let no : true ≡ false = sym itself ∙ differ in cc

-- what holds after some have been taken out
pub record DueSoFar (first left : Armed) (now : ℕ) (given : List Slot) (count : ℕ) : Type 0 where
  pub size : length given ≡ count
  pub due : All (IsDue first now) given
  pub in_order : AllPairs (FiresBefore first) given
  pub before_others : (slot : Slot) → IsDue left now slot → All (λ one. FiresBefore first one slot) given
  pub left_is : left ≡ remove_all first given

-- an entry that comes before another fires before it in the map that has both
fires_before : (armed : Armed) (e x : Slot × ℕ) → get armed e.0 ≡ Some e.1 → get armed x.0 ≡ Some x.1 → Before e x →
    FiresBefore armed e.0 x.0
fires_before armed e x armed_e armed_x comes = λ m n at_m at_n.
    let same_m : e.1 ≡ m = (let both : Some e.1 ≡ Some m = sym armed_e ∙ at_m in cc) in
    let same_n : x.1 ≡ n = (let both : Some x.1 ≡ Some n = sym armed_x ∙ at_n in cc) in
    subst (λ n. Before (e.0, m) (x.0, n)) same_n (subst (λ m. Before (e.0, m) x) same_m comes)

-- one more is taken out
pub one_more : (first left : Armed) (now : ℕ) (given : List Slot) (count : ℕ) (e : Slot × ℕ)
    → DueSoFar first left now given count → IsFirstOf left now (Some e) →
    DueSoFar first (remove left e.0) now (given ++ e.0 ∷ []) (count + 1)
one_more first left now given count e s f =
    let was_armed = λ (slot : Slot) (at : ℕ) (found : get left slot ≡ Some at). remaining_gives given first slot at
    (ap (λ m. get m slot) (sym s.left_is) ∙ found) in
    record {
      size = omega (arith, length-append given (e.0 ∷ []), s.size);
      due = All-push (IsDue first now) given e.0 s.due (e.1, was_armed e.0 e.1 f.0, f.1);
      in_order = all_pairs_push (FiresBefore first) given e.0 s.in_order (s.before_others e.0 (e.1, f.0, f.1));
      before_others = λ slot due.
          let was = left_gives left e.0 slot due.0 due.1 in
          All-push (λ one. FiresBefore first one slot) given e.0 (s.before_others slot (due.0, was.1, due.2))
          (elim (f.2 slot due.0 was.1 due.2) [
            | inl same ↦ absurd (not_itself slot e.0 was.0 (ap (λ (x : Slot × ℕ). x.0) same))
            | inr comes ↦ fires_before first e (slot, due.0) (was_armed e.0 e.1 f.0) (was_armed slot due.0 was.1) comes
          ]);
      left_is = ap (λ m. remove m e.0) s.left_is ∙ sym (remove_all_push given first e.0);
    }

-- no due one is left
pub all_given : (first left : Armed) (now : ℕ) (given : List Slot) (count : ℕ) → count ≤ 256 →
    DueSoFar first left now given count → IsFirstOf left now None → AreFirstDue first now given
all_given first left now given count fits s none =
    let no_more = λ (slot : Slot) (due : IsDue (remove_all first given) now slot).
    (let late : now < due.0 = none slot due.0 (ap (λ m. get m slot) s.left_is ∙ due.1) in let come : due.0 ≤ now =
    due.2 in absurd {A = ⊥} (omega (arith, late, come))) in
    record {
      due = s.due;
      in_order = s.in_order;
      at_most_256 = omega (arith, s.size);
      no_fewer_if_more_are_due = λ slot due. absurd (no_more slot due);
      before_all_others = λ slot due. absurd (no_more slot due);
    }

-- 256 were taken out
pub full_given : (first left : Armed) (now : ℕ) (given : List Slot) (count : ℕ) → count ≡ 256 →
    DueSoFar first left now given count → AreFirstDue first now given
full_given first left now given count full s = record {
  due = s.due;
  in_order = s.in_order;
  at_most_256 = omega (arith, s.size, full);
  no_fewer_if_more_are_due = λ slot due. s.size ∙ full;
  before_all_others = λ slot due. s.before_others slot (due.0, ap (λ m. get m slot) s.left_is ∙ due.1, due.2);
}
