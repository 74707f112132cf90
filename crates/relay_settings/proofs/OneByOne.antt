-- Entries that are taken one by one.
use Rattle.std.proofs.Common.{◌≡◌, ◌∙◌, sym, ap, refl, ℕ, ◌+◌, ◌≤◌, ◌<◌, List, [], ◌∷◌, ◌++◌, length, map, get_or, drop, Result, Ok, Err}
use Rattle.std.proofs.lemmas.List.{drop_all, at_drop_more}
use Rattle.relay_config.specs.Reading.{◌>>=◌}
use Rattle.relay_config.specs.declared.fault.Fault.{Fault}
use Rattle.relay_settings.specs.Meaning.{each_of}

map-append : {A B : Type 0} (f : A → B) (xs ys : List A) → map f (xs ++ ys) ≡ map f xs ++ map f ys
map-append f [] ys = refl
map-append f (x ∷ xs) ys = ap (λ t. f x ∷ t) (map-append f xs ys)

module _ {A B X Y : Type 0} (entry : X → A) (view : Y → B) (step : List B → A → Result B Fault) (xs : List X) where
  -- the entry at an index is taken next
  next : (i : ℕ) (x : X) (found : List B) → i < length xs → x ≡ get_or xs i x
      → each_of step found (map entry (drop i xs))
      ≡ (step found (entry x) >>= λ y. each_of step (found ++ y ∷ []) (map entry (drop (i + 1) xs)))
  next i x found within is =
      at_drop_more (λ (rest : List X). each_of step found (map entry rest)) xs i x within
      ∙ ap (λ (one : X). step found (entry one) >>= λ y. each_of step (found ++ y ∷ []) (map entry (drop (i + 1) xs))) (sym is)

  pub goes_on : (i : ℕ) (x : X) (ys : List Y) (y : Y) (all : Result (List B) Fault) → i < length xs
      → x ≡ get_or xs i x → all ≡ each_of step (map view ys) (map entry (drop i xs))
      → step (map view ys) (entry x) ≡ Ok (view y)
      → all ≡ each_of step (map view (ys ++ y ∷ [])) (map entry (drop (i + 1) xs))
  goes_on i x ys y all within is before read =
      before ∙ next i x (map view ys) within is
      ∙ ap (λ (r : Result B Fault). r >>= λ one. each_of step (map view ys ++ one ∷ []) (map entry (drop (i + 1) xs))) read
      ∙ ap (λ (found : List B). each_of step found (map entry (drop (i + 1) xs))) (sym (map-append view ys (y ∷ [])))

  pub fails : (i : ℕ) (x : X) (ys : List Y) (fault : Fault) (all : Result (List B) Fault) → i < length xs
      → x ≡ get_or xs i x → all ≡ each_of step (map view ys) (map entry (drop i xs))
      → step (map view ys) (entry x) ≡ Err fault
      → all ≡ Err fault
  fails i x ys fault all within is before read =
      before ∙ next i x (map view ys) within is
      ∙ ap (λ (r : Result B Fault). r >>= λ one. each_of step (map view ys ++ one ∷ []) (map entry (drop (i + 1) xs))) read

  pub ended : (i : ℕ) (ys : List Y) (all : Result (List B) Fault) → length xs ≤ i
      → all ≡ each_of step (map view ys) (map entry (drop i xs)) → all ≡ Ok (map view ys)
  ended i ys all past before = before ∙ ap (λ (rest : List X). each_of step (map view ys) (map entry rest)) (drop_all i xs past)
