-- Lists that are read item by item.
use Rattle.std.proofs.Common.{◌≡◌, ◌∙◌, sym, ap, refl, ℕ, suc, ◌+◌, ◌≤◌, ◌<◌, List, [], ◌∷◌, ◌++◌, length, map, get_or, drop, Bool, true, false, Option, Some, Result, Ok, Err, arith}
use Rattle.std.specs.Prelude.{◌==◌, nat_le, if◌then◌else◌}
use Rattle.std.proofs.lemmas.List.{drop_all}
use Rattle.std.proofs.lemmas.Bool.Decides.{nat_tests}
use Rattle.toml.specs.Data.{Data, Items, as_array}
use Rattle.toml.specs.View.{items_view, view}
use Rattle.toml.specs.declared.value.Value.{Value}
use Rattle.toml.proofs.Views.{items_view-drop}
use Rattle.relay_config.specs.Reading.{◌>>=◌, each_in, item_count, list, or_fault, some}
use Rattle.relay_config.specs.declared.fault.Fault.{Fault}
use Rattle.relay_config.specs.declared.fault.Fault.TheVariants.{At}
use Rattle.relay_config.specs.declared.fault.Spot.{Spot}
use Rattle.relay_config.specs.declared.fault.Wrong.TheVariants as wrong

pub item_count-view : (vs : List Value) → item_count (items_view vs) ≡ length vs
item_count-view [] = refl
item_count-view (v ∷ vs) = ap suc (item_count-view vs)

pub list_short : (most : ℕ) (at : Spot) (d : Data) (vs : List Value) → as_array d ≡ Some (items_view vs) → length vs ≤ most
    → list most at d ≡ Ok (items_view vs)
list_short most at d vs is short =
    ap (λ (o : Option Items). or_fault (At at wrong.Type) o >>= λ ds. if nat_le (item_count ds) most then Ok ds else Err (At at wrong.TooMany)) is
    ∙ ap (λ (n : ℕ). if nat_le n most then Ok (items_view vs) else Err (At at wrong.TooMany)) (item_count-view vs)
    ∙ by_test (nat_le (length vs) most) (grind (arith, nat_tests))
  where
    by_test : (b : Bool) → b ≡ true → (if b then Ok (items_view vs) else Err (At at wrong.TooMany)) ≡ Ok (items_view vs)
    by_test b e = rw e refl

pub list_long : (most : ℕ) (at : Spot) (d : Data) (vs : List Value) → as_array d ≡ Some (items_view vs) → most < length vs
    → list most at d ≡ Err (At at wrong.TooMany)
list_long most at d vs is long =
    ap (λ (o : Option Items). or_fault (At at wrong.Type) o >>= λ ds. if nat_le (item_count ds) most then Ok ds else Err (At at wrong.TooMany)) is
    ∙ ap (λ (n : ℕ). if nat_le n most then Ok (items_view vs) else Err (At at wrong.TooMany)) (item_count-view vs)
    ∙ by_test (nat_le (length vs) most) (grind (arith, nat_tests))
  where
    by_test : (b : Bool) → b ≡ false → (if b then Ok (items_view vs) else Err (At at wrong.TooMany)) ≡ Err (At at wrong.TooMany)
    by_test b e = rw e refl

map-append : {A B : Type 0} (f : A → B) (xs ys : List A) → map f (xs ++ ys) ≡ map f xs ++ map f ys
map-append f [] ys = refl
map-append f (x ∷ xs) ys = ap (λ t. f x ∷ t) (map-append f xs ys)

-- ---- The loop over a list's items

module _ {A X : Type 0} (entry : X → A) (step : List A → Data → Result A Fault) (vs : List Value) where
  -- the item at an index is read next
  next : (i : ℕ) (v : Value) (found : List A) → i < length vs → v ≡ get_or vs i v
      → each_in step found (items_view (drop i vs)) ≡ (step found (view v) >>= λ x. each_in step (found ++ x ∷ []) (items_view (drop (i + 1) vs)))
  next i v found within is =
      ap (each_in step found) (items_view-drop vs i v within)
      ∙ ap (λ (w : Value). step found (view w) >>= λ x. each_in step (found ++ x ∷ []) (items_view (drop (i + 1) vs))) (sym is)

  pub goes_on : (i : ℕ) (v : Value) (xs : List X) (x : X) (all : Result (List A) Fault) → i < length vs → v ≡ get_or vs i v
      → all ≡ each_in step (map entry xs) (items_view (drop i vs)) → step (map entry xs) (view v) ≡ Ok (entry x)
      → all ≡ each_in step (map entry (xs ++ x ∷ [])) (items_view (drop (i + 1) vs))
  goes_on i v xs x all within is before read =
      before ∙ next i v (map entry xs) within is
      ∙ ap (λ (r : Result A Fault). r >>= λ y. each_in step (map entry xs ++ y ∷ []) (items_view (drop (i + 1) vs))) read
      ∙ ap (λ (found : List A). each_in step found (items_view (drop (i + 1) vs))) (sym (map-append entry xs (x ∷ [])))

  pub fails : (i : ℕ) (v : Value) (xs : List X) (fault : Fault) (all : Result (List A) Fault) → i < length vs → v ≡ get_or vs i v
      → all ≡ each_in step (map entry xs) (items_view (drop i vs)) → step (map entry xs) (view v) ≡ Err fault
      → all ≡ Err fault
  fails i v xs fault all within is before read =
      before ∙ next i v (map entry xs) within is
      ∙ ap (λ (r : Result A Fault). r >>= λ y. each_in step (map entry xs ++ y ∷ []) (items_view (drop (i + 1) vs))) read

  pub ended : (i : ℕ) (xs : List X) (all : Result (List A) Fault) → length vs ≤ i
      → all ≡ each_in step (map entry xs) (items_view (drop i vs)) → all ≡ Ok (map entry xs)
  ended i xs all past before = before ∙ ap (λ (rest : List Value). each_in step (map entry xs) (items_view rest)) (drop_all i vs past)

pub some_view : (at : Spot) (vs : List Value) → (length vs == 0) ≡ false → some at (items_view vs) ≡ Ok (items_view vs)
some_view at [] e = absurd (grind (arith, nat_tests))
some_view at (v ∷ vs) e = refl

pub none_view : (at : Spot) (vs : List Value) → (length vs == 0) ≡ true → some at (items_view vs) ≡ Err (At at wrong.Empty)
none_view at [] e = refl
none_view at (v ∷ vs) e = absurd (grind (arith, nat_tests))
