-- Names that are taken one by one.
use Rattle.std.proofs.Common.{◌≡◌, ◌∙◌, sym, ap, ℕ, ◌+◌, ◌≤◌, ◌<◌, List, [], ◌∷◌, ◌++◌, Some, None, length, map, get_or, drop, append_assoc, append-nil}
use Rattle.std.proofs.lemmas.List.{drop_all, at_drop_more, map-append}
use Rattle.relay_config.specs.Entries.{target_entry}
use Rattle.relay_config.specs.declared.target.Target.{Target}
use Rattle.relay_settings.specs.Meaning.{in_front, named_at, named_entry, names_from}
use Rattle.relay_settings.specs.declared.targets.Named.{Named}

module _ (xs : List Target) where
  next : (i : ℕ) (x : Target) → i < length xs → x ≡ get_or xs i x
      → names_from i (map target_entry (drop i xs))
      ≡ in_front (named_at i (target_entry x)) (names_from (i + 1) (map target_entry (drop (i + 1) xs)))
  next i x within is =
      at_drop_more (λ (rest : List Target). names_from i (map target_entry rest)) xs i x within
      ∙ ap (λ (one : Target). in_front (named_at i (target_entry one)) (names_from (i + 1) (map target_entry (drop (i + 1) xs)))) (sym is)

  pub one_more : (i : ℕ) (x : Target) (ys : List Named) (y : Named) → i < length xs → x ≡ get_or xs i x
      → names_from 0 (map target_entry xs) ≡ map named_entry ys ++ names_from i (map target_entry (drop i xs))
      → Some (named_entry y) ≡ named_at i (target_entry x)
      → names_from 0 (map target_entry xs) ≡ map named_entry (ys ++ y ∷ []) ++ names_from (i + 1) (map target_entry (drop (i + 1) xs))
  one_more i x ys y within is before told =
      let rest = names_from (i + 1) (map target_entry (drop (i + 1) xs)) in
      before ∙ ap (λ it. map named_entry ys ++ it)
      (next i x within is ∙ ap (λ one. in_front one rest) (sym told))
      ∙ sym (append_assoc (map named_entry ys) (named_entry y ∷ []) rest)
      ∙ ap (λ it. it ++ rest) (sym (map-append named_entry ys (y ∷ [])))

  pub none_here : (i : ℕ) (x : Target) (ys : List Named) → i < length xs → x ≡ get_or xs i x
      → names_from 0 (map target_entry xs) ≡ map named_entry ys ++ names_from i (map target_entry (drop i xs))
      → None ≡ named_at i (target_entry x)
      → names_from 0 (map target_entry xs) ≡ map named_entry ys ++ names_from (i + 1) (map target_entry (drop (i + 1) xs))
  none_here i x ys within is before none =
      before ∙ ap (λ it. map named_entry ys ++ it)
      (next i x within is ∙ ap (λ one. in_front one (names_from (i + 1) (map target_entry (drop (i + 1) xs)))) (sym none))

  pub all_named : (i : ℕ) (ys : List Named) → length xs ≤ i
      → names_from 0 (map target_entry xs) ≡ map named_entry ys ++ names_from i (map target_entry (drop i xs))
      → map named_entry ys ≡ names_from 0 (map target_entry xs)
  all_named i ys past before =
      sym (before ∙ ap (λ it. map named_entry ys ++ names_from i (map target_entry it)) (drop_all i xs past)
      ∙ append-nil (map named_entry ys))
