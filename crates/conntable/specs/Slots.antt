-- How a slab, an index and a list of free keys hold a table. No public clause cites this module.
use Rattle.std.specs.Prelude.{◌≡◌, ◌≢◌, ◌<◌, ◌≤◌, ◌+◌, ◌-◌, ℕ, List, length, map, filter_map}
use Rattle.std.specs.Prelude.{slice_index_or, All, AllPairs, Contains, Some}
use Rattle.slab.specs.Slab.{Slab, get}
use Rattle.conntable.specs.declared.table.Entry.{Entry}
use Rattle.conntable.specs.Token.{key_of}
use Rattle.conntable.specs.ConnTable.{Table, table_of, IsConsistent, IsFreeKey}

-- the free key that came back last, or else as many as there are entries, since then no key is free
abbrev pub next_key_of : List ℕ → ℕ → ℕ
next_key_of free entries = slice_index_or free (length free - 1) entries

module _ {T : Type 0} where
  -- an entry's line in the index: its id, and the place of this id
  abbrev pub line_of : (ℕ → ℕ) → Entry T → ℕ × ℕ
  line_of place e = (e.id, place e.id)

  -- the entries at the places that the index names, in its order
  abbrev pub entries_at : Slab (Entry T) → List (ℕ × ℕ) → List (Entry T)
  entries_at slots index = filter_map (λ line. get slots line.1) index

  -- the slab has these entries and no others, each at the place of its id, and the index has a line
  -- for each, in their order
  pub record Holds (slots : Slab (Entry T)) (index : List (ℕ × ℕ))
      (entries : List (Entry T)) : Type 0 where
    pub place : ℕ → ℕ
    pub indexed : index ≡ map (line_of place) entries
    pub kept : All (λ e. get slots (place e.id) ≡ Some e) entries
    pub no_others : (at : ℕ) (e : Entry T) → get slots at ≡ Some e →
        Contains entries e × (place e.id ≡ at)

  -- each key below a number is that of an entry or free, and no other is; it is never above the
  -- limit, and all these keys fit into a list of this capacity
  pub record HasKeys (free : List ℕ) (capacity : ℕ) (entries : List (Entry T)) : Type 0 where
    pub few : length entries + length free ≤ 4096
    pub room : length entries + length free ≤ capacity
    pub taken : All (λ e. key_of e.token < length entries + length free) entries
    pub below : All (λ key. key < length entries + length free) free
    pub apart : All (λ key. IsFreeKey key entries) free
    pub distinct : AllPairs (λ key other. key ≢ other) free

  -- the table that these hold
  abbrev pub held : Slab (Entry T) → List (ℕ × ℕ) → List ℕ → ℕ → Table T
  held slots index free next_id =
      table_of (entries_at slots index) next_id (next_key_of free (length (entries_at slots index)))

  -- these hold a table
  abbrev pub IsSound : Slab (Entry T) → List (ℕ × ℕ) → List ℕ → ℕ → ℕ → Type 0
  IsSound slots index free capacity next_id = IsConsistent (held slots index free next_id)
      × Holds slots index (entries_at slots index)
      × HasKeys free capacity (entries_at slots index)
