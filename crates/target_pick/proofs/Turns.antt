-- How many of the turns in a row each target has.
use Rattle.std.proofs.Common.{◌≡◌, ◌∙◌, sym, ap, refl, ℕ, zero, suc, ◌+◌, ◌-◌, ◌*◌, ◌/◌, ◌%◌, ◌≤◌, ◌<◌, Bool, List, []}
use Rattle.std.proofs.Common.{◌∷◌, get_or, arith, inl, inr, eq-eqb, ne_eqb}
use Rattle.std.proofs.lemmas.Bool.{cases_eq}
use Rattle.std.proofs.Math.Nat.{add-mod_right, div-add-mod, mod-eq_of_lt, mod-lt, mul_comm, suc-mul, zero-mul}
use Rattle.std.specs.Prelude.{◌==◌, ◌⊎◌, if◌then◌else◌}
use Rattle.target_pick.specs.Pick.{owner, owner_of_turn, turns_had}
use Rattle.target_pick.specs.Seen.{total}
use Rattle.target_pick.proofs.Owners.{owner_here, owner_later}

-- 1 where the test holds
abbrev one : Bool → ℕ
one b = if b then 1 else 0

-- g of so many numbers from this one on
sum_from : (ℕ → ℕ) → ℕ → ℕ → ℕ
sum_from g from zero = 0
sum_from g from (suc n) = sum_from g from n + g (from + n)

sum_split : (g : ℕ → ℕ) (from n m : ℕ) → sum_from g from (n + m) ≡ sum_from g from n + sum_from g (from + n) m
unfolding sum_from
sum_split g from n zero =
    let e : n + zero ≡ n = omega arith in
    let f : sum_from g from n ≡ sum_from g from n + 0 = omega arith in
    ap (λ (k : ℕ). sum_from g from k) e ∙ f
sum_split g from n (suc m) =
    let first : n + suc m ≡ suc (n + m) = omega arith in
    let place : from + (n + m) ≡ from + n + m = omega arith in
    let later = sum_split g from n m in
    let joined : sum_from g from n + sum_from g (from + n) m + g (from + n + m)
    ≡ sum_from g from n + (sum_from g (from + n) m + g (from + n + m)) = omega arith in
    ap (λ (k : ℕ). sum_from g from k) first
    ∙ ap (λ (k : ℕ). sum_from g from (n + m) + g k) place
    ∙ ap (λ (k : ℕ). k + g (from + n + m)) later
    ∙ joined

sum_same : (g h : ℕ → ℕ) (from start n : ℕ) → ((k : ℕ) → k < n → g (from + k) ≡ h (start + k))
    → sum_from g from n ≡ sum_from h start n
unfolding sum_from
sum_same g h from start zero e = refl
sum_same g h from start (suc n) e =
    let before = sum_same g h from start n (λ k below. e k (omega arith)) in
    let last = e n (omega arith) in
    omega arith

sum_none : (g : ℕ → ℕ) (from n : ℕ) → ((k : ℕ) → k < n → g (from + k) ≡ 0) → sum_from g from n ≡ 0
unfolding sum_from
sum_none g from zero e = refl
sum_none g from (suc n) e =
    let before = sum_none g from n (λ k below. e k (omega arith)) in
    let last = e n (omega arith) in
    omega arith

sum_all : (g : ℕ → ℕ) (from n : ℕ) → ((k : ℕ) → k < n → g (from + k) ≡ 1) → sum_from g from n ≡ n
unfolding sum_from
sum_all g from zero e = refl
sum_all g from (suc n) e =
    let before = sum_all g from n (λ k below. e k (omega arith)) in
    let last = e n (omega arith) in
    omega arith

-- ---- One round

-- 1 where the target at this place has the slot
abbrev has : List ℕ → ℕ → ℕ → ℕ
has shares at slot = one (owner shares slot == at)

suc_is_not_zero : (n : ℕ) → one (suc n == 0) ≡ 0
suc_is_not_zero n = ap one (ne_eqb (suc n) 0 (λ e. absurd (omega arith)))

zero_is_not_suc : (n : ℕ) → one (0 == suc n) ≡ 0
zero_is_not_suc n = ap one (ne_eqb 0 (suc n) (λ e. absurd (omega arith)))

suc_same : (n m : ℕ) → one (suc n == suc m) ≡ one (n == m)
suc_same n m = by_cases (cases_eq n m)
  where
    by_cases : (n ≡ m) ⊎ (n ≡ m → ⊥) → one (suc n == suc m) ≡ one (n == m)
    by_cases (inl same) = ap one (eq-eqb (suc n) (suc m) (ap suc same)) ∙ sym (ap one (eq-eqb n m same))
    by_cases (inr other) = ap one (ne_eqb (suc n) (suc m) (λ e. other (omega arith))) ∙ sym (ap one (ne_eqb n m other))

round : (shares : List ℕ) (at : ℕ) → sum_from (has shares at) 0 (total shares) ≡ get_or shares at 0
unfolding sum_from
round [] at = refl
round (share ∷ shares) zero =
    let all = sum_all (has (share ∷ shares) 0) 0 share
    (λ k below. ap (λ (n : ℕ). one (n == 0)) (owner_here share shares (0 + k) (omega arith))) in
    let none = sum_none (has (share ∷ shares) 0) (0 + share) (total shares)
    (λ k below. ap (λ (n : ℕ). one (n == 0)) (owner_later share shares (0 + share + k) (omega arith))
    ∙ suc_is_not_zero (owner shares (0 + share + k - share))) in
    let split = sum_split (has (share ∷ shares) 0) 0 share (total shares) in
    omega arith
round (share ∷ shares) (suc at) =
    let none = sum_none (has (share ∷ shares) (suc at)) 0 share
    (λ k below. ap (λ (n : ℕ). one (n == suc at)) (owner_here share shares (0 + k) (omega arith)) ∙ zero_is_not_suc at) in
    let rest = sum_same (has (share ∷ shares) (suc at)) (has shares at) (0 + share) 0 (total shares)
    (λ k below. let slot : 0 + share + k - share ≡ 0 + k = omega arith in
    ap (λ (n : ℕ). one (n == suc at)) (owner_later share shares (0 + share + k) (omega arith))
    ∙ suc_same (owner shares (0 + share + k - share)) at
    ∙ ap (λ (n : ℕ). one (owner shares n == at)) slot) in
    let split = sum_split (has (share ∷ shares) (suc at)) 0 share (total shares) in
    let later = round shares at in
    omega arith

-- ---- Rounds from any turn on

-- 1 where the target at this place has the turn
abbrev had : List ℕ → ℕ → ℕ → ℕ
had shares at turn = one (owner_of_turn shares turn == at)

had_again : (shares : List ℕ) (at turn : ℕ) → had shares at (turn + total shares) ≡ had shares at turn
had_again shares at turn =
    ap (λ (n : ℕ). one (owner shares n == at)) (add-mod_right turn (total shares))

first_round : (shares : List ℕ) (at : ℕ) → sum_from (had shares at) 0 (total shares) ≡ get_or shares at 0
first_round shares at =
    sum_same (had shares at) (has shares at) 0 0 (total shares)
    (λ k below. ap (λ (n : ℕ). one (owner shares n == at)) (mod-eq_of_lt {n = 0 + k} {m = total shares} (omega arith)))
    ∙ round shares at

any_round : (shares : List ℕ) (at turn : ℕ) → sum_from (had shares at) turn (total shares) ≡ get_or shares at 0
unfolding sum_from
any_round shares at zero = first_round shares at
any_round shares at (suc turn) =
    let g : ℕ → ℕ = had shares at in
    let w : ℕ = total shares in
    let before = any_round shares at turn in
    let last = sum_split g turn w 1 in
    let first = sum_split g turn 1 w in
    let swapped : w + 1 ≡ 1 + w = omega arith in
    let order : sum_from g turn (w + 1) ≡ sum_from g turn (1 + w) = ap (λ (k : ℕ). sum_from g turn k) swapped in
    let next : turn + 1 ≡ suc turn = omega arith in
    let place : sum_from g (turn + 1) w ≡ sum_from g (suc turn) w = ap (λ (k : ℕ). sum_from g k w) next in
    let still : turn + 0 ≡ turn = omega arith in
    let here : g (turn + 0) ≡ g turn = ap g still in
    let later : turn + w + 0 ≡ turn + w = omega arith in
    let there : g (turn + w + 0) ≡ g turn = ap g later ∙ had_again shares at turn in
    let one_of_first : sum_from g turn 1 ≡ 0 + g (turn + 0) = refl in
    let one_of_last : sum_from g (turn + w) 1 ≡ 0 + g (turn + w + 0) = refl in
    omega arith

rounds : (shares : List ℕ) (at turn count : ℕ)
    → sum_from (had shares at) turn (count * total shares) ≡ count * get_or shares at 0
unfolding sum_from
rounds shares at turn zero =
    let e : zero * total shares ≡ 0 = zero-mul (total shares) in
    let f : 0 ≡ zero * get_or shares at 0 = sym (zero-mul (get_or shares at 0)) in
    ap (λ (k : ℕ). sum_from (had shares at) turn k) e ∙ f
rounds shares at turn (suc count) =
    let w : ℕ = total shares in
    let g : ℕ → ℕ = had shares at in
    let more : suc count * w ≡ count * w + w = suc-mul count w in
    let before = rounds shares at turn count in
    let last = any_round shares at (turn + count * w) in
    let split = sum_split g turn (count * w) w in
    let share : suc count * get_or shares at 0 ≡ count * get_or shares at 0 + get_or shares at 0 = suc-mul count (get_or shares at 0) in
    let rest : sum_from g turn (count * w + w) ≡ suc count * get_or shares at 0 = omega arith in
    ap (λ (k : ℕ). sum_from g turn k) more ∙ rest

part_of_a_round : (shares : List ℕ) (at turn n : ℕ) → n ≤ total shares
    → sum_from (had shares at) turn n ≤ get_or shares at 0
part_of_a_round shares at turn n h =
    let w : ℕ = total shares in
    let whole = any_round shares at turn in
    let split = sum_split (had shares at) turn n (w - n) in
    let both : n + (w - n) ≡ w = omega arith in
    let order : sum_from (had shares at) turn (n + (w - n)) ≡ sum_from (had shares at) turn w =
    ap (λ (k : ℕ). sum_from (had shares at) turn k) both in
    omega arith

-- ---- The law

turns_are_sums : (shares : List ℕ) (at turn count : ℕ) → turns_had shares at turn count ≡ sum_from (had shares at) turn count
unfolding sum_from
turns_are_sums shares at turn zero = refl
turns_are_sums shares at turn (suc count) =
    ap (λ (n : ℕ). n + had shares at (turn + count)) (turns_are_sums shares at turn count)

pub each_has_its_share : (shares : List ℕ) (at turn count : ℕ) → 0 < total shares
    → (count / total shares * get_or shares at 0 ≤ turns_had shares at turn count)
    × (turns_had shares at turn count ≤ count / total shares * get_or shares at 0 + get_or shares at 0)
each_has_its_share shares at turn count some =
    let w : ℕ = total shares in
    let q : ℕ = count / w in
    let r : ℕ = count % w in
    let g : ℕ → ℕ = had shares at in
    let parts : q * w + r ≡ count = ap (λ (n : ℕ). n + r) (mul_comm q w) ∙ div-add-mod count w in
    let small : r < w = mod-lt count some in
    let split = sum_split g turn (q * w) r in
    let order : sum_from g turn (q * w + r) ≡ sum_from g turn count = ap (λ (k : ℕ). sum_from g turn k) parts in
    let whole = rounds shares at turn q in
    let rest = part_of_a_round shares at (turn + q * w) r (omega arith) in
    let is = turns_are_sums shares at turn count in
    (omega arith, omega arith)
