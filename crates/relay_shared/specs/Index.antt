-- What stands under which id.
use Rattle.std.specs.Prelude.{◌≡◌, ◌==◌, ◌≤◌, ◌+◌, ◌++◌, ℕ, not, List, [], ◌∷◌, Option, Some}
use Rattle.std.specs.Prelude.{All, AllPairs, filter}
use Rattle.std.specs.Ordering.{nat_cmp}
use Rattle.std.specs.BTreeMap.{is_at}
use Rattle.std.specs.Map.{lookup}
use Rattle.relay_shared.specs.declared.index.Entered.{Entered}
use Rattle.relay_shared.specs.declared.index.Gone.{Gone}
use Rattle.relay_shared.specs.declared.index.Standing.{Standing}
use Rattle.relay_shared.specs.declared.index.Standing.TheVariants.{Connection, Listener}
use Rattle.relay_admin.specs.declared.admin.shown.ShownSide.{ShownSide}
use Rattle.relay_admin.specs.declared.admin.shown.ShownSide.TheVariants as side

-- the id under which something was entered
abbrev pub entered_id : Entered → ℕ
entered_id entered = entered.id

-- the id under which what has gone was entered
abbrev pub gone_id : Gone → ℕ
gone_id gone = gone.id

-- what a caller sees of an index: what stands, with the id under which it was entered, in the order
-- in which that was; and the next id
pub record Register (C L : Type 0) : Type 0 where
  pub entries : List (ℕ × Standing C L)
  pub next_id : ℕ

module _ {C L : Type 0} where
  -- the register of these entries, with this next id
  abbrev pub register_of : List (ℕ × Standing C L) → ℕ → Register C L
  register_of entries next_id = record { entries = entries; next_id = next_id }

  -- what stands that was entered under this id
  abbrev pub entered : Register C L → ℕ → Option (Standing C L)
  entered index id = lookup (is_at (nat_cmp id)) index.entries

  -- how many ids it has
  abbrev pub id_count : Standing C L → ℕ
  id_count (Connection connection) = 2
  id_count (Listener listener) = 1

  -- the ids of an entry are from 1 to below the next
  abbrev pub HasGivenIds : ℕ → ℕ × Standing C L → Type 0
  HasGivenIds next entry = (1 ≤ entry.0) × (entry.0 + id_count entry.1 ≤ next)

  -- the ids of an entry come before those of a later one
  abbrev pub ComesBefore : ℕ × Standing C L → ℕ × Standing C L → Type 0
  ComesBefore entry later = entry.0 + id_count entry.1 ≤ later.0

  -- what holds of every index
  pub record IsRegister (index : Register C L) : Type 0 where
    pub first : 1 ≤ index.next_id
    pub given : All (HasGivenIds index.next_id) index.entries
    pub rising : AllPairs ComesBefore index.entries

  -- it is found so by the id that many behind the one under which it was entered
  abbrev pub IsFoundAt : Standing C L → ShownSide → (behind : ℕ) → Type 0
  IsFoundAt (Connection connection) side.Client behind = behind ≡ 0
  IsFoundAt (Connection connection) side.Target behind = behind ≡ 1
  IsFoundAt (Connection connection) side.Listener behind = ⊥
  IsFoundAt (Listener listener) side.Client behind = ⊥
  IsFoundAt (Listener listener) side.Target behind = ⊥
  IsFoundAt (Listener listener) side.Listener behind = behind ≡ 0

  -- this stands, and the id names it so
  abbrev pub IsNamed : Register C L → ℕ → ShownSide → Standing C L → Type 0
  IsNamed index id shown standing = (first behind : ℕ) × (id ≡ first + behind)
      × (entered index first ≡ Some standing) × IsFoundAt standing shown behind

  -- this stands, and the id names it on one of its sides
  abbrev pub NamesAnything : Register C L → ℕ → Type 0
  NamesAnything index id = (shown : ShownSide) × (standing : Standing C L)
      × IsNamed index id shown standing

  -- this is entered last, under the next id, and the next id is behind all its own
  pub record EntersIndex (old new : Register C L) (id : ℕ) (standing : Standing C L) : Type 0 where
    pub given : id ≡ old.next_id
    pub entries : new.entries ≡ old.entries ++ (id, standing) ∷ []
    pub next_id : new.next_id ≡ old.next_id + id_count standing

  -- the entries of all other ids, in their order
  abbrev pub without : ℕ → List (ℕ × Standing C L) → List (ℕ × Standing C L)
  without id entries = filter (λ entry. not (id == entry.0)) entries

  -- what was entered under this id is taken out, if it stands, and nothing else changes
  abbrev pub LeavesIndex : Register C L → Register C L → ℕ → Type 0
  LeavesIndex old new id = new ≡ record old { entries = without id old.entries }

  -- the ids of what was entered under this one
  abbrev pub ids_from : ℕ → Standing C L → List ℕ
  ids_from id (Connection connection) = id ∷ (id + 1) ∷ []
  ids_from id (Listener listener) = id ∷ []

  -- the ids of entries, in their order
  abbrev pub ids_in : List (ℕ × Standing C L) → List ℕ
  ids_in [] = []
  ids_in (entry ∷ entries) = ids_from entry.0 entry.1 ++ ids_in entries
