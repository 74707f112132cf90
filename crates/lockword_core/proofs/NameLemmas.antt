-- Counts over seats, where each seat has what the holder of its number has.
use Rattle.std.proofs.Common.{◌≡◌, zero, suc, ◌+◌, ◌∙◌, [], ◌∷◌, set, get_or-set_other}
use Rattle.std.specs.Ordering.{is_eq}
use Rattle.std.specs.List.{AllByRecursion}
use Rattle.lockword_core.proofs.Words.{ℕ, false, List, refl, sym, ap, subst, arith, Option, Some, None, get_or}
use Rattle.lockword_core.proofs.Words.{unwrap_or, Less, nat_cmp, lookup, keys_of, values_of, is_at, IsStrictlySortedBy}
use Rattle.lockword_core.proofs.Words.{Stake, LockState, census, stake_of, part, number, IsConsistent}
use mathlib.Core.Logic.{dite}
use native.Mathlib.Decide.{ℕ_discrete}
use Rattle.lockword_core.specs.declared.stake.Stake.TheVariants as stake
use Rattle.lockword_core.specs.LockState.{Counted, count}
use Rattle.lockword_core.proofs.CountLemmas.{count-nil, count-cons, part-free}
use Rattle.lockword_core.proofs.EndHolders.{same_key, other_key}

-- ---- Seats of which one has nothing any more

all_free : (what : Counted) (stakes : List Stake) → ((i : ℕ) → get_or stakes i stake.Free ≡ stake.Free)
    → count what stakes ≡ 0
all_free what [] none = count-nil what
all_free what (x ∷ xs) none =
    let sum = count-cons what x xs in
    let first : part what x ≡ 0 = ap (part what) (none zero) ∙ part-free what in
    let rest = all_free what xs (λ i. none (suc i)) in
    omega arith

freed : (xs : List Stake) (k : ℕ) → get_or (set xs k stake.Free) k stake.Free ≡ stake.Free
freed [] zero = refl
freed [] (suc k) = refl
freed (x ∷ xs) zero = refl
freed (x ∷ xs) (suc k) = freed xs k

count-freed : (what : Counted) (xs : List Stake) (k : ℕ)
    → count what (set xs k stake.Free) + part what (get_or xs k stake.Free) ≡ count what xs
count-freed what [] zero =
    let same : count what (set [] zero stake.Free) ≡ count what [] = refl in
    let none : part what (get_or [] zero stake.Free) ≡ 0 = part-free what in
    omega arith
count-freed what [] (suc k) =
    let same : count what (set [] (suc k) stake.Free) ≡ count what [] = refl in
    let none : part what (get_or [] (suc k) stake.Free) ≡ 0 = part-free what in
    omega arith
count-freed what (x ∷ xs) zero =
    let now : count what (set (x ∷ xs) zero stake.Free) ≡ part what stake.Free + count what xs =
    count-cons what stake.Free xs in
    let was : part what (get_or (x ∷ xs) zero stake.Free) ≡ part what x = refl in
    let all = count-cons what x xs in
    let none = part-free what in
    omega arith
count-freed what (x ∷ xs) (suc k) =
    let now : count what (set (x ∷ xs) (suc k) stake.Free) ≡ part what x + count what (set xs k stake.Free) =
    count-cons what x (set xs k stake.Free) in
    let was : part what (get_or (x ∷ xs) (suc k) stake.Free) ≡ part what (get_or xs k stake.Free) = refl in
    let all = count-cons what x xs in
    let rest = count-freed what xs k in
    omega arith

-- ---- Names

not_listed : (k : ℕ) (es : List (ℕ × Stake)) → AllByRecursion (λ y. nat_cmp k y ≡ Less) (keys_of es)
    → lookup (is_at (nat_cmp k)) es ≡ None
not_listed k [] above = refl
not_listed k (e ∷ es) above = let h : nat_cmp k e.0 ≡ Less = above.0 in rw h (not_listed k es above.1)

listed : (e : ℕ × Stake) (es : List (ℕ × Stake)) → lookup (is_at (nat_cmp e.0)) (e ∷ es) ≡ Some e.1
listed e es = rw (same_key e.0) refl

passed : (i : ℕ) (e : ℕ × Stake) (es : List (ℕ × Stake)) → is_eq (nat_cmp i e.0) ≡ false
    → lookup (is_at (nat_cmp i)) (e ∷ es) ≡ lookup (is_at (nat_cmp i)) es
passed i e es other = rw other refl

-- each seat has what the entry of its number has
abbrev IsListed : List Stake → List (ℕ × Stake) → Type 0
IsListed stakes es =
    (i : ℕ) → get_or stakes i stake.Free ≡ unwrap_or (lookup (is_at (nat_cmp i)) es) stake.Free

others_listed : (e : ℕ × Stake) (es : List (ℕ × Stake)) (stakes : List Stake)
    → AllByRecursion (λ y. nat_cmp e.0 y ≡ Less) (keys_of es) → IsListed stakes (e ∷ es)
    → IsListed (set stakes e.0 stake.Free) es
others_listed e es stakes above same i =
    dite (ℕ_discrete i e.0)
    (λ is. subst (λ (q : ℕ). get_or (set stakes e.0 stake.Free) q stake.Free
    ≡ unwrap_or (lookup (is_at (nat_cmp q)) es) stake.Free) (sym is)
    (freed stakes e.0 ∙ sym (ap (λ (o : Option Stake). unwrap_or o stake.Free) (not_listed e.0 es above))))
    (λ ne. get_or-set_other stakes e.0 i stake.Free stake.Free ne ∙ same i
    ∙ ap (λ (o : Option Stake). unwrap_or o stake.Free) (passed i e es (other_key i e.0 ne)))

same_counts : (what : Counted) (es : List (ℕ × Stake)) (stakes : List Stake) → IsStrictlySortedBy nat_cmp (keys_of es)
    → IsListed stakes es → count what stakes ≡ count what (values_of es)
unfolding IsStrictlySortedBy
same_counts what [] stakes sorted same = all_free what stakes same ∙ sym (count-nil what)
same_counts what (e ∷ es) stakes sorted same =
    let rest = same_counts what es (set stakes e.0 stake.Free) sorted.1 (others_listed e es stakes sorted.0 same) in
    let here : get_or stakes e.0 stake.Free ≡ e.1 =
    same e.0 ∙ ap (λ (o : Option Stake). unwrap_or o stake.Free) (listed e es) in
    let one = ap (part what) here in
    let left = count-freed what stakes e.0 in
    let sum : count what (values_of (e ∷ es)) ≡ part what e.1 + count what (values_of es) =
    count-cons what e.1 (values_of es) in
    omega arith

pub counts_by_seats : (s : LockState) (stakes : List Stake) → IsConsistent s
    → ((i : ℕ) → get_or stakes i stake.Free ≡ stake_of s i) → (what : Counted)
    → count what stakes ≡ number what (census s)
counts_by_seats s stakes good same what = same_counts what s.holders stakes good.names same
