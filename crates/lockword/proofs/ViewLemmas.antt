-- Counts over the views of all seats: what one seat's change does to them.
use Rattle.std.proofs.Common.{◌≡◌, ◌+◌, ◌≤◌, ◌<◌, ◌∙◌, [], ◌∷◌, ◌++◌}
use Rattle.std.specs.Prelude.{if◌then◌else◌}
use Rattle.std.proofs.lemmas.List.{map-set}
use Rattle.std.proofs.lemmas.List.Sums.{sum_by-set, sum_by-cons, sum_by_push}
use Rattle.lockword.proofs.Words.{ℕ, zero, suc, Bool, true, false, List, length, get_or, set, refl, sym, ap, subst}
use Rattle.lockword.proofs.Words.{arith, some, get_elem?, set_again, Stake, Counted, lasts, part, ChangesOneStake}
use Rattle.lockword.proofs.Words.{LocalView, stakes_of, taken_by}
use mathlib.Core.Option.{some-ne-none, some-injective}
use Rattle.atomic_table.proofs.Lists.{at_map}
use Rattle.lockword_core.specs.LockState.{count}
use Rattle.lockword_core.proofs.CountLemmas.{count-nil, changes-set}
use Rattle.lockword.specs.LocalView.{takers}

pub at_there : {A : Type 0} (xs : List A) (i : ℕ) (x : A) → get_elem? xs i ≡ some x
    → (i < length xs) × ((d : A) → get_or xs i d ≡ x)
at_there [] i x e = absurd (some-ne-none x (sym e))
at_there (y ∷ ys) zero x e = (omega arith, λ d. some-injective y x e)
at_there (y ∷ ys) (suc i) x e = let r = at_there ys i x e in let h : i < length ys = r.0 in (omega arith, r.1)

-- ---- Stakes

pub stakes-set : (views : List LocalView) (i : ℕ) (w : LocalView)
    → stakes_of (set views i w) ≡ set (stakes_of views) i w.stake
stakes-set views i w = map-set (λ (v : LocalView). v.stake) views i w

pub stake_at : (views : List LocalView) (i : ℕ) (v : LocalView) → get_elem? views i ≡ some v
    → get_elem? (stakes_of views) i ≡ some v.stake
stake_at views i v at = at_map (λ (x : LocalView). x.stake) views i v at

-- the change of one seat's view is the change of one stake
pub one_changes : (views : List LocalView) (i : ℕ) (v w : LocalView) → get_elem? views i ≡ some v
    → ChangesOneStake (stakes_of views) v.stake (stakes_of (set views i w)) w.stake
one_changes views i v w at =
    let there = at_there (stakes_of views) i v.stake (stake_at views i v at) in
    subst (λ (ys : List Stake). ChangesOneStake (stakes_of views) v.stake ys w.stake) (sym (stakes-set views i w))
    (subst (λ (x : Stake). ChangesOneStake (stakes_of views) x (set (stakes_of views) i w.stake) w.stake)
    (there.1 w.stake) (changes-set (stakes_of views) i w.stake there.0))

-- each count has at least the part of each seat
pub counted_at : (views : List LocalView) (i : ℕ) (v : LocalView) → get_elem? views i ≡ some v → (what : Counted)
    → part what v.stake ≤ count what (stakes_of views)
counted_at views i v at what = let before = (one_changes views i v v at).counted_before what in omega arith

-- a view with the same stake changes no stake
pub same_stakes : (views : List LocalView) (i : ℕ) (v w : LocalView) → get_elem? views i ≡ some v → w.stake ≡ v.stake
    → stakes_of (set views i w) ≡ stakes_of views
same_stakes views i v w at e =
    stakes-set views i w ∙ ap (set (stakes_of views) i) e
    ∙ set_again (stakes_of views) i v.stake (stake_at views i v at)

pub stakes_push : (views : List LocalView) (w : LocalView)
    → stakes_of (views ++ w ∷ []) ≡ stakes_of views ++ w.stake ∷ []
stakes_push [] w = refl
stakes_push (v ∷ vs) w = ap (λ (ys : List Stake). v.stake ∷ ys) (stakes_push vs w)

-- ---- Takers

pub takers-set : (views : List LocalView) (i : ℕ) (v w : LocalView) → get_elem? views i ≡ some v
    → takers (set views i w) + taken_by v ≡ takers views + taken_by w
unfolding takers
takers-set views i v w at =
    let there = at_there views i v at in
    subst (λ (x : LocalView). takers (set views i w) + taken_by x ≡ takers views + taken_by w) (there.1 w)
    (sum_by-set taken_by views i w w there.0)

pub takers-push : (views : List LocalView) (w : LocalView) → takers (views ++ w ∷ []) ≡ takers views + taken_by w
unfolding takers
takers-push views w = sum_by_push taken_by views w

pub takers-nil : takers [] ≡ 0
unfolding takers
takers-nil = refl

takers-cons : (v : LocalView) (vs : List LocalView) → takers (v ∷ vs) ≡ taken_by v + takers vs
unfolding takers
takers-cons v vs = sum_by-cons taken_by v vs

lasts-cons : (own : Stake) (rest : List Stake) → count lasts (own ∷ rest) ≡ part lasts own + count lasts rest
unfolding count
lasts-cons own rest = sum_by-cons (part lasts) own rest

pub taken-le : (v : LocalView) → taken_by v ≤ part lasts v.stake
taken-le v = by v.took (part lasts v.stake)
  where
    by : (b : Bool) (p : ℕ) → (if b then p else 0) ≤ p
    by true p = omega arith
    by false p = omega arith

-- whoever took the halves is a `Last`
pub takers-le : (views : List LocalView) → takers views ≤ count lasts (stakes_of views)
takers-le [] = omega (arith, takers-nil, count-nil lasts)
takers-le (v ∷ vs) = omega (arith, takers-le vs, taken-le v, takers-cons v vs, lasts-cons v.stake (stakes_of vs))
