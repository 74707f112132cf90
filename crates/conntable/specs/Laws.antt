-- Laws of tables and tokens, in the words of their callers.
use Rattle.std.specs.Prelude.{◌≡◌, ◌≤◌, ◌<◌, ◌+◌, ◌^◌, ◌/◌, ℕ, All, Contains, Some, None, IfSome}
use Rattle.std.specs.List.Sorted.{IsStrictlyIncreasing}
use Rattle.conntable.specs.declared.table.Entry.{Entry}
use Rattle.conntable.specs.Token.{token_of, key_of}
use Rattle.conntable.specs.ConnTable.{Table, IsConsistent, Inserts, Removes, HasNoId}
use Rattle.conntable.specs.ConnTable.{value_with_token, value_with_id, ids_of, first_id_of}

module _ {T : Type 0} where
  -- the second table comes of the first by inserts and removals
  pub data IsLater : Table T → Table T → Type 0 where
    same : {t : Table T} → IsLater t t
    inserted : {t u v : Table T} (id token : ℕ) (value : T) →
        IsLater t u → id ≡ u.next_id → Inserts u v id token value → IsLater t v
    removed : {t u v : Table T} (id : ℕ) (value : T) →
        IsLater t u → Removes u v id value → IsLater t v

-- each entry's token names this entry
abbrev pub TokensNameTheirEntries : (T : Type 0) → Type 0
TokensNameTheirEntries T = (t : Table T) → IsConsistent t →
    (e : Entry T) → Contains t.entries e → value_with_token e.token t.entries ≡ Some e.value

-- each entry's id names this entry
abbrev pub IdsNameTheirEntries : (T : Type 0) → Type 0
IdsNameTheirEntries T = (t : Table T) → IsConsistent t →
    (e : Entry T) → Contains t.entries e → value_with_id e.id t.entries ≡ Some e.value

-- an id that was given and that no entry has names nothing from then on, and no more do its tokens
abbrev pub RemovedNamesNothing : (T : Type 0) → Type 0
RemovedNamesNothing T = (t later : Table T) (id key : ℕ) →
    id < t.next_id → HasNoId id t.entries → IsLater t later → IsConsistent later → key < 4096 →
    (value_with_id id later.entries ≡ None)
    × (value_with_token (token_of key id) later.entries ≡ None)

-- the ids of a table rise
abbrev pub IdsRise : (T : Type 0) → Type 0
IdsRise T = (t : Table T) → IsConsistent t → IsStrictlyIncreasing (ids_of t.entries)

-- the first id is that of an entry, and no entry has one below it
abbrev pub FirstIdIsLeast : (T : Type 0) → Type 0
FirstIdIsLeast T = (t : Table T) → IsConsistent t →
    IfSome (first_id_of t.entries) (λ id. All (λ e. id ≤ e.id) t.entries)

-- a token tells its key and its id
abbrev pub TokensTellKeyAndId : Type 0
TokensTellKeyAndId = (key id : ℕ) → key < 4096 →
    (key_of (token_of key id) ≡ key) × (token_of key id / 4096 ≡ id)

-- a token that can be given is below the greatest number of 64 bits
abbrev pub GreatestIsNoToken : Type 0
GreatestIsNoToken = (key id : ℕ) → key < 4096 → id ≤ 4503599627370494 → token_of key id + 1 < 2 ^ 64
