-- No two lists are both the first that are due.
use Rattle.std.proofs.Common.{◌≡◌, ℕ, zero, suc, ◌≤◌, ◌⊎◌, inl, inr, true, false, cond, List, [], ◌∷◌, length, refl}
use Rattle.std.proofs.Common.{sym, ap, subst, ◌∙◌, Some, None, arith}
use Rattle.std.specs.List.{slice_index_or, All, AllPairs, Contains}
use Rattle.std.proofs.lemmas.List.Elements.{All-head, All-tail, All-contains, Contains-append_right}
use Rattle.std.proofs.lemmas.List.Elements.{Contains-append_cases}
use Rattle.std.proofs.lemmas.Map.Views.{tells_apart}
use Rattle.std.specs.declared.cmp.Ordering.TheVariants.{Less, Greater}
use Rattle.std.specs.Ordering.{eq_by_cmp, ordering_reverse}
use Rattle.std.specs.FinMap.{get, remove, get-remove}
use Rattle.deadline_core.specs.DueOrder.{Slot, slot_cmp, entry_cmp, Before}
use Rattle.deadline_core.specs.Timers.{Armed, remove_all, IsDue, FiresBefore, AreFirstDue}
use Rattle.deadline_core.proofs.TimersLemmas.{slots_total, exact_slots}
use Rattle.deadline_core.proofs.DueLemmas.{entries_total, left_gives}
use Rattle.deadline_core.proofs.DueLawsLemmas.{here_given, only}

-- the first timers that are due, as `AreFirstDue` has them, up to a number of them
record FirstUpTo (most : ℕ) (armed : Armed) (now : ℕ) (given : List Slot) : Type 0 where
  due : All (IsDue armed now) given
  in_order : AllPairs (FiresBefore armed) given
  at_most : length given ≤ most
  no_fewer : (slot : Slot) → IsDue (remove_all armed given) now slot → length given ≡ most
  before_others : (slot : Slot) → IsDue (remove_all armed given) now slot →
      All (λ one. FiresBefore armed one slot) given

never_both : (one other : Slot × ℕ) → Before one other → Before other one → ⊥
never_both one other comes goes =
    let turned : entry_cmp other one ≡ Greater = entries_total.antisymm other one ∙ ap ordering_reverse comes in
    let both : Less ≡ Greater = sym goes ∙ turned in
    cc both

-- two due timers don't both fire before the other
one_way : (armed : Armed) (now : ℕ) (one other : Slot) → IsDue armed now one → IsDue armed now other →
    FiresBefore armed one other → FiresBefore armed other one → ⊥
one_way armed now one other due_one due_other comes goes =
    never_both (one, due_one.0) (other, due_other.0) (comes due_one.0 due_other.0 due_one.1 due_other.1)
    (goes due_other.0 due_one.0 due_other.1 due_one.1)

itself : (armed : Armed) (now : ℕ) (x y : Slot) → y ≡ x → IsDue armed now x → IsDue armed now y →
    FiresBefore armed x y → ⊥
itself armed now x y same due_x due_y comes = one_way armed now x y due_x due_y comes
    (subst (λ z. FiresBefore armed z x) (sym same) (subst (λ z. FiresBefore armed x z) same comes))

still_armed : (armed : Armed) (x y : Slot) (at : ℕ) → (y ≡ x → ⊥) → get armed y ≡ Some at →
    get (remove armed x) y ≡ Some at
still_armed armed x y at apart found =
    get-remove slots_total armed x y
    ∙ elim (eq_by_cmp slot_cmp y x) as (λ b. eq_by_cmp slot_cmp y x ≡ b → cond b None (get armed y) ≡ Some at) [
      | true ↦ λ is. absurd (apart (tells_apart exact_slots y x is))
      | false ↦ λ is. found
    ] refl

pairs_tail : (R : Slot → Slot → Type 0) (x : Slot) (xs : List Slot) → AllPairs R (x ∷ xs) → AllPairs R xs
pairs_tail R x xs pairs = λ i j d before within. pairs (suc i) (suc j) d (omega (arith, before)) (omega (arith, within))

pairs_head : (R : Slot → Slot → Type 0) (x : Slot) (xs : List Slot) → AllPairs R (x ∷ xs) → All (R x) xs
pairs_head R x xs pairs = λ k d within. pairs 0 (suc k) d (omega arith) (omega (arith, within))

-- a slot was given, or is armed as before
given_or_left : (given : List Slot) (armed : Armed) (q : Slot) →
    Contains given q ⊎ (get (remove_all armed given) q ≡ get armed q)
given_or_left [] armed q = inr refl
given_or_left (one ∷ given) armed q =
    elim (eq_by_cmp slot_cmp q one) as (λ b. eq_by_cmp slot_cmp q one ≡ b →
    Contains (one ∷ given) q ⊎ (get (remove_all armed (one ∷ given)) q ≡ get armed q)) [
      | true ↦ λ is. inl (here_given one given q (sym (tells_apart exact_slots q one is)))
      | false ↦ λ is. elim (given_or_left given (remove armed one) q) [
        | inl has ↦ inl (Contains-append_right (one ∷ []) given q has)
        | inr same ↦ inr (same ∙ get-remove slots_total armed one q ∙ ap (λ b. cond b None (get armed q)) is)
      ]
    ] refl

-- the head fires before every other due timer
head_first : (most : ℕ) (armed : Armed) (now : ℕ) (x : Slot) (xs : List Slot) (q : Slot) →
    FirstUpTo most armed now (x ∷ xs) → IsDue armed now q → (x ≡ q) ⊎ FiresBefore armed x q
head_first most armed now x xs q first due =
    elim (given_or_left (x ∷ xs) armed q) [
      | inl has ↦ elim (Contains-append_cases (x ∷ []) xs q has) [
        | inl here ↦ inl (only x q here)
        | inr later ↦ inr (All-contains (FiresBefore armed x) xs q
            (pairs_head (FiresBefore armed) x xs first.in_order) later)
      ]
      | inr same ↦ inr (All-head (λ one. FiresBefore armed one q) x xs
          (first.before_others q (due.0, same ∙ due.1, due.2)))
    ]

-- the others are the first, once the head is taken out
tail_first : (most : ℕ) (armed : Armed) (now : ℕ) (x : Slot) (xs : List Slot) →
    FirstUpTo (suc most) armed now (x ∷ xs) → FirstUpTo most (remove armed x) now xs
tail_first most armed now x xs first =
    let head_due = All-head (IsDue armed now) x xs first.due in
    let after_head = pairs_head (FiresBefore armed) x xs first.in_order in
    let weaker = λ (p q : Slot) (comes : FiresBefore armed p q) (m n : ℕ) (at_m : get (remove armed x) p ≡ Some m)
    (at_n : get (remove armed x) q ≡ Some n).
    comes m n (left_gives armed x p m at_m).1 (left_gives armed x q n at_n).1 in
    record {
      due = λ k d within.
          let y = slice_index_or xs k d in
          let y_due = All-tail (IsDue armed now) x xs first.due k d within in
          let comes = after_head k d within in (
            y_due.0,
            still_armed armed x y y_due.0 (λ same. itself armed now x y same head_due y_due comes) y_due.1,
            y_due.2,
          );
      in_order = λ i j d before within. weaker _ _
          (pairs_tail (FiresBefore armed) x xs first.in_order i j d before within);
      at_most = omega (arith, first.at_most);
      no_fewer = λ slot due. omega (arith, first.no_fewer slot due);
      before_others = λ slot due k d within. weaker _ slot
          (All-tail (λ one. FiresBefore armed one slot) x xs (first.before_others slot due) k d within);
    }

same_head : (most : ℕ) (armed : Armed) (now : ℕ) (x y : Slot) (xs ys : List Slot) → FirstUpTo most armed now (x ∷ xs) →
    FirstUpTo most armed now (y ∷ ys) → x ≡ y
same_head most armed now x y xs ys one other =
    let due_x = All-head (IsDue armed now) x xs one.due in
    let due_y = All-head (IsDue armed now) y ys other.due in
    elim (head_first most armed now x xs y one due_y) [
      | inl same ↦ same
      | inr comes ↦ elim (head_first most armed now y ys x other due_x) [
        | inl same ↦ sym same
        | inr goes ↦ absurd (one_way armed now x y due_x due_y comes goes)
      ]
    ]

one_list : (most : ℕ) (armed : Armed) (now : ℕ) (a b : List Slot) → FirstUpTo most armed now a →
    FirstUpTo most armed now b → a ≡ b
one_list most armed now [] [] one other = refl
one_list most armed now [] (y ∷ ys) one other =
    let none : 0 ≡ most = one.no_fewer y (All-head (IsDue armed now) y ys other.due) in
    let some : length (y ∷ ys) ≤ most = other.at_most in
    absurd (omega (arith, none, some))
one_list most armed now (x ∷ xs) [] one other =
    let none : 0 ≡ most = other.no_fewer x (All-head (IsDue armed now) x xs one.due) in
    let some : length (x ∷ xs) ≤ most = one.at_most in
    absurd (omega (arith, none, some))
one_list zero armed now (x ∷ xs) (y ∷ ys) one other =
    let some : length (x ∷ xs) ≤ 0 = one.at_most in
    absurd (omega (arith, some))
one_list (suc most) armed now (x ∷ xs) (y ∷ ys) one other =
    let heads : x ≡ y = same_head (suc most) armed now x y xs ys one other in
    let others = subst (λ z. FirstUpTo most (remove armed z) now ys) (sym heads)
    (tail_first most armed now y ys other) in
    let tails : xs ≡ ys = one_list most (remove armed x) now xs ys (tail_first most armed now x xs one) others in
    λ i. heads i ∷ tails i

up_to_256 : (armed : Armed) (now : ℕ) (given : List Slot) → AreFirstDue armed now given → FirstUpTo 256 armed now given
up_to_256 armed now given first = record {
  due = first.due;
  in_order = first.in_order;
  at_most = first.at_most_256;
  no_fewer = first.no_fewer_if_more_are_due;
  before_others = first.before_all_others;
}

-- one map at one moment has one list of first due timers
pub one_answer : (armed : Armed) (now : ℕ) (one other : List Slot) → AreFirstDue armed now one →
    AreFirstDue armed now other → one ≡ other
one_answer armed now one other first again = one_list 256 armed now one other (up_to_256 armed now one first)
    (up_to_256 armed now other again)
