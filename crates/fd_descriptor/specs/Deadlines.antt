-- Which alarm goes with a deadline, and what a call that sets one did.
use Rattle.std.specs.Prelude.{◌≡◌, ℕ, nat_lt, if◌then◌else◌, false, List, ◌∷◌, Ok, Err, Result}
use Rattle.std.specs.Prelude.{Option, Some, None}
use Rattle.deadline_core.specs.declared.deadline.Deadline.{Deadline}
use Rattle.deadline_core.specs.declared.deadline.Deadline.TheVariants.{Never, At}
use Rattle.deadline_core.specs.declared.deadline.Dirs.{Dirs}
use Rattle.deadline_core.specs.PollHistory.{Call, DeadlineSet, closing}
use Rattle.rwloops.specs.declared.fault.Fault.{Fault}
use Rattle.rwloops.specs.declared.fault.Fault.TheVariants as fault
use Rattle.fd_descriptor.specs.declared.deadlines.Setting.{Setting}
use Rattle.fd_descriptor.specs.declared.watched.Watched.{Watched}
use Rattle.fd_descriptor.specs.Parking.{IsAfter}

-- what a call asks for these directions
abbrev pub setting_of : Dirs → Deadline → ℕ → Setting
setting_of dirs deadline now = record { dirs = dirs; deadline = deadline; now = now }

-- the moment of a deadline that is still to come
abbrev pub alarm_at : Deadline → ℕ → Option ℕ
alarm_at Never now = None
alarm_at (At moment) now = if nat_lt now moment then Some moment else None

-- the alarms were asked for this moment, or for none any more
abbrev pub WasAsked : (ℕ → Dirs → ℕ → Type 0) → (ℕ → Dirs → Type 0) → ℕ → Dirs → Option ℕ → Type 0
WasAsked armed disarmed key dirs (Some at) = armed key dirs at
WasAsked armed disarmed key dirs None = disarmed key dirs

-- the alarms refused this moment
abbrev pub WasRefused : (ℕ → Dirs → ℕ → Type 0) → ℕ → Dirs → Option ℕ → Type 0
WasRefused refused key dirs (Some at) = refused key dirs at
WasRefused refused key dirs None = ⊥

-- a deadline was set, with its alarm: the alarms were asked for it, and a state of the cell, which
-- wasn't closing, stands now for the calls that it stood for and this one
pub record IsSet (armed : ℕ → Dirs → ℕ → Type 0) (disarmed : ℕ → Dirs → Type 0) (key : ℕ)
    (setting : Setting) : Type 0 where
  pub asked : WasAsked armed disarmed key setting.dirs (alarm_at setting.deadline setting.now)
  pub before : Watched
  pub after : Watched
  pub open_before : (calls : List Call) → IsAfter before calls → closing calls ≡ false
  pub set : (calls : List Call) → IsAfter before calls
      → IsAfter after (DeadlineSet setting.dirs setting.deadline setting.now (Ok tt) ∷ calls)

-- what a call that sets a deadline did, by its answer; one that tells that memory was refused was
-- refused this very alarm
abbrev pub HasSet : (ℕ → Dirs → ℕ → Type 0) → (ℕ → Dirs → ℕ → Type 0) → (ℕ → Dirs → Type 0) → ℕ
    → Setting → Result (Unit {0}) Fault → Type 0
HasSet armed refused disarmed key setting (Ok u) = IsSet armed disarmed key setting
HasSet armed refused disarmed key setting (Err fault.OutOfMemory) =
    WasRefused refused key setting.dirs (alarm_at setting.deadline setting.now)
HasSet armed refused disarmed key setting (Err told) = Unit {0}
