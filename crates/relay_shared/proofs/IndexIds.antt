-- The ids in the list of an index: they rise, and are those that name something.
use Rattle.std.proofs.Common.{◌≡◌, ◌∙◌, sym, ap, subst, refl, inl, inr, ℕ, zero, suc, ◌+◌, ◌<◌, ◌≤◌, ◌==◌}
use Rattle.std.proofs.Common.{List, [], ◌∷◌, ◌++◌, Bool, true, false, cond, Some, arith}
use Rattle.std.proofs.Common.{eqb-true}
use Rattle.std.proofs.lemmas.Bool.{ne_eqb, eq-eqb}
use Rattle.std.specs.Prelude.{All, AllPairs, Contains, ◌↔◌}
use Rattle.std.specs.Ordering.{nat_cmp}
use Rattle.std.specs.BTreeMap.{is_at}
use Rattle.std.specs.Map.{lookup}
use Rattle.std.proofs.lemmas.List.Elements.{All-cons, All-head, All-tail, All-weaker}
use Rattle.std.proofs.lemmas.List.Elements.{Contains-append_left, Contains-append_right, Contains-append_cases}
use Rattle.std.proofs.lemmas.List.Kept.{AllPairs-cons}
use Rattle.relay_shared.specs.declared.index.Standing.{Standing}
use Rattle.relay_shared.specs.declared.index.Standing.TheVariants.{Connection, Listener}
use Rattle.relay_admin.specs.declared.admin.shown.ShownSide.{ShownSide}
use Rattle.relay_admin.specs.declared.admin.shown.ShownSide.TheVariants as side
use Rattle.relay_shared.specs.Index.{Register, register_of, ComesBefore, IsRegister, IsFoundAt, NamesAnything}
use Rattle.relay_shared.specs.Index.{id_count, ids_from, ids_in}
use Rattle.relay_shared.proofs.IndexLists.{has_an_id}
use Rattle.relay_shared.proofs.IndexLookups.{under_first}

module _ {C L : Type 0} where
  -- the ids of later entries
  later_ids : (entry : ℕ × Standing C L) (entries : List (ℕ × Standing C L))
      → AllPairs ComesBefore (entry ∷ entries)
      → All (λ other. entry.0 + id_count entry.1 ≤ other.0) entries
  later_ids entry entries rising = λ k d within. rising 0 (suc k) d (omega arith) (omega arith)

  tail_rises : (entry : ℕ × Standing C L) (entries : List (ℕ × Standing C L))
      → AllPairs ComesBefore (entry ∷ entries) → AllPairs ComesBefore entries
  tail_rises entry entries rising = λ i j d below within. rising (suc i) (suc j) d (omega arith) (omega arith)

  -- the ids of entries from a number on are from that number on
  ids_above : (least : ℕ) (entries : List (ℕ × Standing C L)) → All (λ entry. least ≤ entry.0) entries
      → All (λ id. least ≤ id) (ids_in entries)
  ids_above least [] above = λ k d within. absurd (omega (arith, within))
  ids_above least ((id, Connection connection) ∷ entries) above =
      let first : least ≤ id = All-head (λ e. least ≤ e.0) (id, Connection connection) entries above in
      let rest = ids_above least entries (All-tail (λ e. least ≤ e.0) (id, Connection connection) entries above) in
      All-cons (λ n. least ≤ n) id ((id + 1) ∷ ids_in entries) first
      (All-cons (λ n. least ≤ n) (id + 1) (ids_in entries) (omega (arith, first)) rest)
  ids_above least ((id, Listener listener) ∷ entries) above =
      All-cons (λ n. least ≤ n) id (ids_in entries)
      (All-head (λ e. least ≤ e.0) (id, Listener listener) entries above)
      (ids_above least entries (All-tail (λ e. least ≤ e.0) (id, Listener listener) entries above))

  pub ids_rise : (entries : List (ℕ × Standing C L)) → AllPairs ComesBefore entries
      → AllPairs (λ id later. id < later) (ids_in entries)
  ids_rise [] rising = λ i j d below within. absurd (omega (arith, within))
  ids_rise ((id, Connection connection) ∷ entries) rising =
      let rest = ids_rise entries (tail_rises (id, Connection connection) entries rising) in
      let above = ids_above (id + 2) entries (later_ids (id, Connection connection) entries rising) in
      AllPairs-cons (λ a b. a < b) id ((id + 1) ∷ ids_in entries)
      (All-cons (λ n. id < n) (id + 1) (ids_in entries) (omega arith)
      (All-weaker (λ n. id + 2 ≤ n) (λ n. id < n) (λ n h. omega (arith, h)) (ids_in entries) above))
      (AllPairs-cons (λ a b. a < b) (id + 1) (ids_in entries)
      (All-weaker (λ n. id + 2 ≤ n) (λ n. id + 1 < n) (λ n h. omega (arith, h)) (ids_in entries) above) rest)
  ids_rise ((id, Listener listener) ∷ entries) rising =
      let above = ids_above (id + 1) entries (later_ids (id, Listener listener) entries rising) in
      AllPairs-cons (λ a b. a < b) id (ids_in entries)
      (All-weaker (λ n. id + 1 ≤ n) (λ n. id < n) (λ n h. omega (arith, h)) (ids_in entries) above)
      (ids_rise entries (tail_rises (id, Listener listener) entries rising))

  -- what is found among entries from a number on has an id from that number on
  found_above : (least id : ℕ) (standing : Standing C L) (entries : List (ℕ × Standing C L))
      → All (λ entry. least ≤ entry.0) entries → lookup (is_at (nat_cmp id)) entries ≡ Some standing
      → least ≤ id
  found_above least id standing [] above is = absurd (cc)
  found_above least id standing (entry ∷ entries) above is =
      by_test (id == entry.0) refl
      (found_above least id standing entries (All-tail (λ e. least ≤ e.0) entry entries above))
      (sym (under_first id entry entries) ∙ is)
    where
      by_test : (b : Bool) → (id == entry.0) ≡ b
          → (lookup (is_at (nat_cmp id)) entries ≡ Some standing → least ≤ id)
          → cond b (Some entry.1) (lookup (is_at (nat_cmp id)) entries) ≡ Some standing → least ≤ id
      by_test true same rest is =
          let first : least ≤ entry.0 = All-head (λ e. least ≤ e.0) entry entries above in
          let equal = eqb-true id entry.0 same in omega (arith, first, equal)
      by_test false other rest is = rest is

  -- what is found among later entries is found among all
  found_later : (entry : ℕ × Standing C L) (id : ℕ) (standing : Standing C L) (entries : List (ℕ × Standing C L))
      → AllPairs ComesBefore (entry ∷ entries) → lookup (is_at (nat_cmp id)) entries ≡ Some standing
      → lookup (is_at (nat_cmp id)) (entry ∷ entries) ≡ Some standing
  found_later entry id standing entries rising is =
      let above = found_above (entry.0 + id_count entry.1) id standing entries (later_ids entry entries rising) is in
      let some = has_an_id entry.1 in
      let other : (id == entry.0) ≡ false = ne_eqb id entry.0 (λ same. omega (arith, above, some, same)) in
      under_first id entry entries
      ∙ ap (λ b. cond b (Some entry.1) (lookup (is_at (nat_cmp id)) entries)) other ∙ is

  -- the first entry is found by its id
  found_first : (entry : ℕ × Standing C L) (entries : List (ℕ × Standing C L))
      → lookup (is_at (nat_cmp entry.0)) (entry ∷ entries) ≡ Some entry.1
  found_first entry entries =
      under_first entry.0 entry entries
      ∙ ap (λ b. cond b (Some entry.1) (lookup (is_at (nat_cmp entry.0)) entries)) (eq-eqb entry.0 entry.0 refl)

  -- the id of an entry names it
  own_id_names : (next id : ℕ) (entry : ℕ × Standing C L) (entries : List (ℕ × Standing C L))
      → Contains (ids_from entry.0 entry.1) id → NamesAnything (register_of (entry ∷ entries) next) id
  own_id_names next id (at, Connection connection) entries (zero, within, is) = (
    side.Client,
    Connection connection,
    (at, 0, omega (arith, is), found_first (at, Connection connection) entries, refl),
  )
  own_id_names next id (at, Connection connection) entries (suc zero, within, is) = (
    side.Target,
    Connection connection,
    (at, 1, omega (arith, is), found_first (at, Connection connection) entries, refl),
  )
  own_id_names next id (at, Connection connection) entries (suc (suc k), within, is) = absurd (omega (arith, within))
  own_id_names next id (at, Listener listener) entries (zero, within, is) = (
    side.Listener,
    Listener listener,
    (at, 0, omega (arith, is), found_first (at, Listener listener) entries, refl),
  )
  own_id_names next id (at, Listener listener) entries (suc k, within, is) = absurd (omega (arith, within))

  -- what is listed names something
  listed_names : (next id : ℕ) (entries : List (ℕ × Standing C L)) → AllPairs ComesBefore entries
      → Contains (ids_in entries) id → NamesAnything (register_of entries next) id
  listed_names next id [] rising (k, within, is) = absurd (omega (arith, within))
  listed_names next id (entry ∷ entries) rising listed =
      elim (Contains-append_cases (ids_from entry.0 entry.1) (ids_in entries) id listed) [
        | inl own ↦ own_id_names next id entry entries own
        | inr rest ↦ (let named = listed_names next id entries (tail_rises entry entries rising) rest in
            let at = named.2 in (
              named.0,
              named.1,
              (
                at.0,
                at.1,
                at.2,
                found_later entry at.0 named.1 entries rising at.3,
                at.4,
              ),
            ))
      ]

  -- an entry's own ids are listed
  own_is_listed : (at behind id : ℕ) (standing : Standing C L) (shown : ShownSide) → id ≡ at + behind
      → IsFoundAt standing shown behind → Contains (ids_from at standing) id
  own_is_listed at behind id (Connection connection) side.Client same is =
      (0, omega arith, omega (arith, same, is))
  own_is_listed at behind id (Connection connection) side.Target same is =
      (1, omega arith, omega (arith, same, is))
  own_is_listed at behind id (Connection connection) side.Listener same is = absurd is
  own_is_listed at behind id (Listener listener) side.Client same is = absurd is
  own_is_listed at behind id (Listener listener) side.Target same is = absurd is
  own_is_listed at behind id (Listener listener) side.Listener same is =
      (0, omega arith, omega (arith, same, is))

  -- what names something is listed
  named_is_listed : (at behind id : ℕ) (standing : Standing C L) (shown : ShownSide)
      (entries : List (ℕ × Standing C L)) → id ≡ at + behind
      → lookup (is_at (nat_cmp at)) entries ≡ Some standing → IsFoundAt standing shown behind
      → Contains (ids_in entries) id
  named_is_listed at behind id standing shown [] same is found = absurd (cc)
  named_is_listed at behind id standing shown (entry ∷ entries) same is found =
      by_test (at == entry.0) refl
      (λ there. named_is_listed at behind id standing shown entries same there found)
      (sym (under_first at entry entries) ∙ is)
    where
      by_test : (b : Bool) → (at == entry.0) ≡ b
          → (lookup (is_at (nat_cmp at)) entries ≡ Some standing → Contains (ids_in entries) id)
          → cond b (Some entry.1) (lookup (is_at (nat_cmp at)) entries) ≡ Some standing
          → Contains (ids_from entry.0 entry.1 ++ ids_in entries) id
      by_test true equal rest is =
          let own : entry.1 ≡ standing = cc in
          Contains-append_left (ids_from entry.0 entry.1) (ids_in entries) id
          (own_is_listed entry.0 behind id entry.1 shown
          (same ∙ ap (λ n. n + behind) (eqb-true at entry.0 equal))
          (subst (λ s. IsFoundAt s shown behind) (sym own) found))
      by_test false other rest is =
          Contains-append_right (ids_from entry.0 entry.1) (ids_in entries) id (rest is)

  pub listed_is_named : (index : Register C L) → IsRegister index → (id : ℕ)
      → (Contains (ids_in index.entries) id ↔ NamesAnything index id)
  listed_is_named index is id = (
    listed_names index.next_id id index.entries is.rising,
    λ named. named_is_listed named.2.0 named.2.1 id named.1 named.0 index.entries named.2.2 named.2.3 named.2.4,
  )
