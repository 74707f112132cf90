-- Why an insert is refused.
use Rattle.std.specs.Prelude.{◌≡◌, ◌<◌, ◌≤◌, length}
use Rattle.conntable.specs.ConnTable.{Table}
use Rattle.conntable.specs.declared.table.Refusal.{Refusal}
use Rattle.conntable.specs.declared.table.Refusal.TheVariants as why

-- a table with room for one more entry, an id to give, and a key for it
abbrev pub HasRoom : {T : Type 0} → Table T → Type 0
HasRoom t = (length t.entries < 4096) × (t.next_id ≤ 4503599627370494) × (t.next_key < 4096)

-- while a table has room for one more entry, its next key is below the limit
abbrev pub HasKeyForRoom : {T : Type 0} → Table T → Type 0
HasKeyForRoom t = length t.entries < 4096 → t.next_key < 4096

-- a table refuses one more entry for this reason, where the tests come in this order
abbrev pub Refuses : {T : Type 0} → Table T → Refusal → Type 0
Refuses t why.Full = length t.entries ≡ 4096
Refuses t why.IdsSpent = (length t.entries < 4096) × (4503599627370494 < t.next_id)
Refuses t why.NoKey =
    (length t.entries < 4096) × (t.next_id ≤ 4503599627370494) × (4096 ≤ t.next_key)
Refuses t why.OutOfMemory = HasRoom t
Refuses t why.Unknown = ⊥
