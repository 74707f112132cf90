-- A table of connections, as a list of entries by rising id.
use Rattle.std.specs.Prelude.{◌≡◌, ◌≢◌, ◌==◌, ◌≤◌, ◌<◌, ◌+◌, ℕ, List, [], ◌∷◌, ◌++◌, length, map}
use Rattle.std.specs.Prelude.{find, All, AllPairs, Option, Some, None}
use Rattle.std.specs.Option.{option_map}
use Rattle.conntable.specs.declared.table.Entry.{Entry}
use Rattle.conntable.specs.Token.{token_of, key_of}

-- what a caller sees of a table: the entries in the order of their inserts, the next id and key
pub record Table (T : Type 0) : Type 0 where
  pub entries : List (Entry T)
  pub next_id : ℕ
  pub next_key : ℕ

module _ {T : Type 0} where
  -- the table of these entries, with this next id and next key
  abbrev pub table_of : List (Entry T) → ℕ → ℕ → Table T
  table_of entries next_id next_key =
      record { entries = entries; next_id = next_id; next_key = next_key }

  -- the token of the next key and the next id
  abbrev pub next_token : Table T → ℕ
  next_token t = token_of t.next_key t.next_id

  -- an entry has an id from 1 to the last, below the next one
  abbrev pub HasGivenId : ℕ → Entry T → Type 0
  HasGivenId next e = (1 ≤ e.id) × (e.id < next) × (e.id ≤ 4503599627370494)

  -- no entry has this key
  abbrev pub IsFreeKey : ℕ → List (Entry T) → Type 0
  IsFreeKey key entries = All (λ e. key_of e.token ≢ key) entries

  -- no entry has this id
  abbrev pub HasNoId : ℕ → List (Entry T) → Type 0
  HasNoId id entries = All (λ e. e.id ≢ id) entries

  -- what holds of every table
  pub record IsConsistent (t : Table T) : Type 0 where
    pub room : length t.entries ≤ 4096
    pub first : 1 ≤ t.next_id
    pub ids : All (HasGivenId t.next_id) t.entries
    pub rising : AllPairs (λ e f. e.id < f.id) t.entries
    pub tokens : All (λ e. e.token ≡ token_of (key_of e.token) e.id) t.entries
    pub keys : AllPairs (λ e f. key_of e.token ≢ key_of f.token) t.entries
    pub next_key : IsFreeKey t.next_key t.entries

  -- the first entry that has this token, if one has
  abbrev pub entry_with_token : ℕ → List (Entry T) → Option (Entry T)
  entry_with_token token entries = find (λ e. e.token == token) entries

  -- the value of the first entry that has this token, if one has
  abbrev pub value_with_token : ℕ → List (Entry T) → Option T
  value_with_token token entries = option_map (λ e. e.value) (find (λ e. e.token == token) entries)

  -- the id of the first entry that has this token, if one has
  abbrev pub id_with_token : ℕ → List (Entry T) → Option ℕ
  id_with_token token entries = option_map (λ e. e.id) (entry_with_token token entries)

  -- the first entry that has this id, if one has
  abbrev pub entry_with_id : ℕ → List (Entry T) → Option (Entry T)
  entry_with_id id entries = find (λ e. e.id == id) entries

  -- the value of the first entry that has this id, if one has
  abbrev pub value_with_id : ℕ → List (Entry T) → Option T
  value_with_id id entries = option_map (λ e. e.value) (find (λ e. e.id == id) entries)

  -- the ids in the order of the entries
  abbrev pub ids_of : List (Entry T) → List ℕ
  ids_of entries = map (λ e. e.id) entries

  -- the id of the first entry, if there is one
  abbrev pub first_id_of : List (Entry T) → Option ℕ
  first_id_of [] = None
  first_id_of (e ∷ es) = Some e.id

  -- one entry is put last, and the next id rises by one
  pub record Inserts (old new : Table T) (id token : ℕ) (value : T) : Type 0 where
    pub entries : new.entries ≡ old.entries ++ record { id = id; token = token; value = value } ∷ []
    pub next_id : new.next_id ≡ old.next_id + 1

  -- the entry of this id and this value alone is taken out, and the next id stays
  pub record Removes (old new : Table T) (id : ℕ) (value : T) : Type 0 where
    pub before : List (Entry T)
    pub token : ℕ
    pub after : List (Entry T)
    pub was : old.entries ≡ before ++ record { id = id; token = token; value = value } ∷ after
    pub is : new.entries ≡ before ++ after
    pub next_id : new.next_id ≡ old.next_id
