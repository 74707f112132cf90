-- The list of an index, as its map has it.
use Rattle.std.proofs.Common.{◌≡◌, ◌∙◌, sym, ap, refl, ℕ, ◌+◌, ◌<◌, ◌≤◌, ◌==◌, List, [], ◌∷◌, ◌++◌, arith}
use Rattle.std.proofs.Common.{Bool, true, false, cond, suc, subst, eqb-true}
use Rattle.std.proofs.lemmas.Bool.{ne_eqb}
use Rattle.std.specs.Prelude.{All, AllPairs, not, filter}
use Rattle.std.specs.Ordering.{nat_cmp, match_ordering}
use Rattle.std.specs.declared.cmp.Ordering.TheVariants.{Greater}
use Rattle.std.specs.Cmp.{nat_cmp_is, unsigned_tied}
use Rattle.std.specs.BTreeMap.{insert_entry, is_at}
use Rattle.std.specs.Map.{remove_entry}
use Rattle.std.proofs.lemmas.List.Elements.{All-head, All-tail, All-push, All-filter, All-weaker}
use Rattle.std.proofs.lemmas.List.Kept.{AllPairs-filter}
use Rattle.std.proofs.lemmas.List.Quantifiers.{all_pairs_push}
use Rattle.relay_shared.specs.declared.index.Standing.{Standing}
use Rattle.relay_shared.specs.declared.index.Standing.TheVariants.{Connection, Listener}
use Rattle.relay_shared.specs.Index.{Register, register_of, id_count, HasGivenIds, ComesBefore, IsRegister, EntersIndex, without}

module _ {C L : Type 0} where
  -- everything has an id
  pub has_an_id : (standing : Standing C L) → 1 ≤ id_count standing
  has_an_id (Connection connection) = omega arith
  has_an_id (Listener listener) = omega arith

  -- what is entered under an id above all others stands last
  pub inserted_last : (entries : List (ℕ × Standing C L)) (next : ℕ) (standing : Standing C L)
      → All (HasGivenIds next) entries
      → insert_entry nat_cmp entries next standing ≡ entries ++ (next, standing) ∷ []
  inserted_last [] next standing given = refl
  inserted_last (entry ∷ entries) next standing given =
      let within = (All-head (HasGivenIds next) entry entries given).1 in
      let some = has_an_id entry.1 in
      let below : entry.0 < next = omega (arith, within, some) in
      let above : Greater ≡ nat_cmp next entry.0 = nat_cmp_is next entry.0 Greater below in
      let rest = inserted_last entries next standing (All-tail (HasGivenIds next) entry entries given) in
      ap (λ o. match_ordering o ((next, standing) ∷ entry ∷ entries) ((entry.0, standing) ∷ entries)
      (entry ∷ insert_entry nat_cmp entries next standing)) (sym above)
      ∙ ap (λ list. entry ∷ list) rest

  -- and the index is as every index is
  pub consistent_last : (old new : Register C L) (id : ℕ) (standing : Standing C L)
      → IsRegister old → EntersIndex old new id standing → IsRegister new
  consistent_last old new id standing was enters =
      let is_next = enters.given in let next = enters.next_id in
      record {
        first = (let first = was.first in omega (arith, first, next));
        given = rw (enters.entries) (rw next (All-push (HasGivenIds (old.next_id + id_count standing)) old.entries
            (id, standing)
            (All-weaker (HasGivenIds old.next_id) (HasGivenIds (old.next_id + id_count standing))
            (λ entry h. (h.0, omega (arith, h))) old.entries was.given)
            (omega (arith, is_next, was.first), omega (arith, is_next))));
        rising = rw (enters.entries) (all_pairs_push ComesBefore old.entries (id, standing) was.rising
            (λ k d below. let h = (was.given k d below).1 in omega (arith, h, is_next)));
      }

  -- an id isn't that of entries which come later
  nobody : (id : ℕ) (entries : List (ℕ × Standing C L)) → All (λ entry. id < entry.0) entries
      → filter (λ entry. not (id == entry.0)) entries ≡ entries
  nobody id [] later = refl
  nobody id (entry ∷ entries) later =
      let after : id < entry.0 = All-head (λ e. id < e.0) entry entries later in
      let other : (id == entry.0) ≡ false = ne_eqb id entry.0 (λ same. omega (arith, after, same)) in
      ap (λ b. cond (not b) (entry ∷ without id entries) (without id entries)) other
      ∙ ap (λ list. entry ∷ list) (nobody id entries (All-tail (λ e. id < e.0) entry entries later))

  -- the first entry of an id is its only one
  pub removed_is_without : (id : ℕ) (entries : List (ℕ × Standing C L)) → AllPairs ComesBefore entries
      → remove_entry (is_at (nat_cmp id)) entries ≡ without id entries
  removed_is_without id [] rising = refl
  removed_is_without id (entry ∷ entries) rising =
      let rest = removed_is_without id entries (λ i j d below within.
      rising (suc i) (suc j) d (omega arith) (omega arith)) in
      ap (λ b. cond b entries (entry ∷ remove_entry (is_at (nat_cmp id)) entries)) (unsigned_tied id entry.0)
      ∙ by_test (id == entry.0) refl rest
    where
      later : All (λ other. entry.0 < other.0) entries
      later = λ k d within. let before = rising 0 (suc k) d (omega arith) (omega arith) in
          let some = has_an_id entry.1 in omega (arith, before, some)

      by_test : (b : Bool) → (id == entry.0) ≡ b
          → remove_entry (is_at (nat_cmp id)) entries ≡ without id entries
          → cond b entries (entry ∷ remove_entry (is_at (nat_cmp id)) entries)
          ≡ cond (not b) (entry ∷ without id entries) (without id entries)
      by_test true is rest =
          let same : id ≡ entry.0 = eqb-true id entry.0 is in
          sym (nobody id entries (subst (λ n. All (λ other. n < other.0) entries) (sym same) later))
      by_test false is rest = ap (λ list. entry ∷ list) rest

  -- what is left of an index is as every index is
  pub consistent_without : (index : Register C L) (id : ℕ) → IsRegister index
      → IsRegister (register_of (without id index.entries) index.next_id)
  consistent_without index id was = record {
    first = was.first;
    given = All-filter (λ entry. not (id == entry.0)) (HasGivenIds index.next_id) index.entries was.given;
    rising = AllPairs-filter ComesBefore (λ entry. not (id == entry.0)) index.entries was.rising;
  }
