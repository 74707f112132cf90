-- What is found in the list of an index, before and after it changes.
use Rattle.std.proofs.Common.{◌≡◌, ◌≢◌, ◌⊎◌, ◌∙◌, sym, ap, refl, inl, inr, ℕ, ◌==◌, List, [], ◌∷◌, ◌++◌}
use Rattle.std.proofs.Common.{Bool, true, false, cond, Option, Some, None, eqb-true}
use Rattle.std.proofs.lemmas.Bool.{ne_eqb, eqb-false, eq-eqb}
use Rattle.std.specs.Prelude.{not}
use Rattle.std.specs.Ordering.{nat_cmp}
use Rattle.std.specs.Cmp.{unsigned_tied}
use Rattle.std.specs.BTreeMap.{is_at}
use Rattle.std.specs.Map.{lookup}
use Rattle.relay_shared.specs.declared.index.Standing.{Standing}
use Rattle.relay_shared.specs.Index.{without}

module _ {C L : Type 0} where
  -- what stands under this id in a list of entries
  abbrev pub under : ℕ → List (ℕ × Standing C L) → Option (Standing C L)
  under id entries = lookup (is_at (nat_cmp id)) entries

  -- the first entry has this id, or the others are asked
  pub under_first : (id : ℕ) (entry : ℕ × Standing C L) (entries : List (ℕ × Standing C L))
      → under id (entry ∷ entries) ≡ cond (id == entry.0) (Some entry.1) (under id entries)
  under_first id entry entries =
      ap (λ b. cond b (Some entry.1) (under id entries)) (unsigned_tied id entry.0)

  -- behind one entry more stands what stood before, or that entry
  pub found_behind : (id at : ℕ) (given standing : Standing C L) (entries : List (ℕ × Standing C L))
      → lookup (is_at (nat_cmp id)) (entries ++ (at, given) ∷ []) ≡ Some standing
      → (lookup (is_at (nat_cmp id)) entries ≡ Some standing) ⊎ ((at ≡ id) × (given ≡ standing))
  found_behind id at given standing [] is =
      by_test (id == at) refl (sym (under_first id (at, given) []) ∙ is)
    where
      by_test : (b : Bool) → (id == at) ≡ b → cond b (Some given) None ≡ Some standing
          → (None ≡ Some standing) ⊎ ((at ≡ id) × (given ≡ standing))
      by_test true same is = inr (sym (eqb-true id at same), cc)
      by_test false other is = absurd (cc)
  found_behind id at given standing (entry ∷ entries) is =
      by_test (id == entry.0) refl (found_behind id at given standing entries)
      (sym (under_first id entry (entries ++ (at, given) ∷ [])) ∙ is)
    where
      by_test : (b : Bool) → (id == entry.0) ≡ b
          → (under id (entries ++ (at, given) ∷ []) ≡ Some standing
          → (under id entries ≡ Some standing) ⊎ ((at ≡ id) × (given ≡ standing)))
          → cond b (Some entry.1) (under id (entries ++ (at, given) ∷ [])) ≡ Some standing
          → (under id (entry ∷ entries) ≡ Some standing) ⊎ ((at ≡ id) × (given ≡ standing))
      by_test true same rest is = inl (under_first id entry entries
          ∙ ap (λ b. cond b (Some entry.1) (under id entries)) same ∙ is)
      by_test false other rest is = elim (rest is) [
        | inl before ↦ inl (under_first id entry entries
            ∙ ap (λ b. cond b (Some entry.1) (under id entries)) other ∙ before)
        | inr now ↦ inr now
      ]

  -- without an id stands what stood under the others
  pub found_without : (id at : ℕ) (standing : Standing C L) (entries : List (ℕ × Standing C L))
      → lookup (is_at (nat_cmp id)) (without at entries) ≡ Some standing
      → (at ≢ id) × (lookup (is_at (nat_cmp id)) entries ≡ Some standing)
  found_without id at standing [] is = absurd (cc)
  found_without id at standing (entry ∷ entries) is =
      by_left (at == entry.0) refl (found_without id at standing entries) is
    where
      -- the entry that is asked for stands first, or another does
      by_asked : (b : Bool) → (id == entry.0) ≡ b → (at ≢ entry.0)
          → (under id (without at entries) ≡ Some standing
          → (at ≢ id) × (under id entries ≡ Some standing))
          → cond b (Some entry.1) (under id (without at entries)) ≡ Some standing
          → (at ≢ id) × (cond b (Some entry.1) (under id entries) ≡ Some standing)
      by_asked true same apart rest is = ((λ equal. apart (equal ∙ eqb-true id entry.0 same)), is)
      by_asked false other apart rest is = rest is

      by_left : (b : Bool) → (at == entry.0) ≡ b
          → (under id (without at entries) ≡ Some standing
          → (at ≢ id) × (under id entries ≡ Some standing))
          → under id (cond (not b) (entry ∷ without at entries) (without at entries)) ≡ Some standing
          → (at ≢ id) × (under id (entry ∷ entries) ≡ Some standing)
      by_left true left rest is =
          let found = rest is in
          let other : (id == entry.0) ≡ false =
          ne_eqb id entry.0 (λ equal. found.0 (eqb-true at entry.0 left ∙ sym equal)) in (
            found.0,
            under_first id entry entries
                ∙ ap (λ b. cond b (Some entry.1) (under id entries)) other ∙ found.1,
          )
      by_left false stays rest is =
          let found = by_asked (id == entry.0) refl (eqb-false at entry.0 stays) rest
          (sym (under_first id entry (without at entries)) ∙ is) in
          (found.0, under_first id entry entries ∙ found.1)

  -- behind one entry more stands what stood before
  pub still_found : (id at : ℕ) (given standing : Standing C L) (entries : List (ℕ × Standing C L))
      → lookup (is_at (nat_cmp id)) entries ≡ Some standing
      → lookup (is_at (nat_cmp id)) (entries ++ (at, given) ∷ []) ≡ Some standing
  still_found id at given standing [] is = absurd (cc)
  still_found id at given standing (entry ∷ entries) is =
      under_first id entry (entries ++ (at, given) ∷ [])
      ∙ by_test (id == entry.0) (still_found id at given standing entries)
      (sym (under_first id entry entries) ∙ is)
    where
      by_test : (b : Bool)
          → (under id entries ≡ Some standing → under id (entries ++ (at, given) ∷ []) ≡ Some standing)
          → cond b (Some entry.1) (under id entries) ≡ Some standing
          → cond b (Some entry.1) (under id (entries ++ (at, given) ∷ [])) ≡ Some standing
      by_test true rest is = is
      by_test false rest is = rest is

  -- and that entry, where nothing stood under its id
  pub found_last : (id : ℕ) (given : Standing C L) (entries : List (ℕ × Standing C L))
      → lookup (is_at (nat_cmp id)) entries ≡ None
      → lookup (is_at (nat_cmp id)) (entries ++ (id, given) ∷ []) ≡ Some given
  found_last id given [] none =
      under_first id (id, given) []
      ∙ ap (λ b. cond b (Some given) None) (eq-eqb id id refl)
  found_last id given (entry ∷ entries) none =
      under_first id entry (entries ++ (id, given) ∷ [])
      ∙ by_test (id == entry.0) (found_last id given entries) (sym (under_first id entry entries) ∙ none)
    where
      by_test : (b : Bool)
          → (under id entries ≡ None → under id (entries ++ (id, given) ∷ []) ≡ Some given)
          → cond b (Some entry.1) (under id entries) ≡ None
          → cond b (Some entry.1) (under id (entries ++ (id, given) ∷ [])) ≡ Some given
      by_test true rest is = absurd (cc)
      by_test false rest is = rest is

  -- what stood under another id stands without this one
  pub found_still : (id at : ℕ) (standing : Standing C L) (entries : List (ℕ × Standing C L))
      → at ≢ id → lookup (is_at (nat_cmp id)) entries ≡ Some standing
      → lookup (is_at (nat_cmp id)) (without at entries) ≡ Some standing
  found_still id at standing [] apart is = absurd (cc)
  found_still id at standing (entry ∷ entries) apart is =
      by_left (at == entry.0) refl (found_still id at standing entries apart)
      (sym (under_first id entry entries) ∙ is)
    where
      by_asked : (b : Bool)
          → (under id entries ≡ Some standing → under id (without at entries) ≡ Some standing)
          → cond b (Some entry.1) (under id entries) ≡ Some standing
          → cond b (Some entry.1) (under id (without at entries)) ≡ Some standing
      by_asked true rest is = is
      by_asked false rest is = rest is

      by_left : (b : Bool) → (at == entry.0) ≡ b
          → (under id entries ≡ Some standing → under id (without at entries) ≡ Some standing)
          → cond (id == entry.0) (Some entry.1) (under id entries) ≡ Some standing
          → under id (cond (not b) (entry ∷ without at entries) (without at entries)) ≡ Some standing
      by_left true left rest is =
          let other : (id == entry.0) ≡ false =
          ne_eqb id entry.0 (λ equal. apart (eqb-true at entry.0 left ∙ sym equal)) in
          rest (sym (ap (λ b. cond b (Some entry.1) (under id entries)) other) ∙ is)
      by_left false stays rest is =
          under_first id entry (without at entries) ∙ by_asked (id == entry.0) rest is
