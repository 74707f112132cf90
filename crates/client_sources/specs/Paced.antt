-- A line that is written once a second at most.
use Rattle.std.specs.Prelude.{◌-◌, ℕ, Bool, true, nat_le, Option, Some, None, if◌then◌else◌}
use Rattle.client_sources.specs.declared.paced.Paced.{Paced}

-- when one was written last
abbrev pub last_told : Paced → Option ℕ
last_told paced = paced.last

-- none was
abbrev pub never : Option ℕ
never = None

-- one may be written: none was, or a second has passed
abbrev pub may_tell : Option ℕ → ℕ → Bool
may_tell None now = true
may_tell (Some last) now = nat_le 1000000000 (now - last)

-- when one was written last, once it was asked at this moment whether one may be
abbrev pub last_told_by : Option ℕ → ℕ → Option ℕ
last_told_by last now = if may_tell last now then Some now else last
