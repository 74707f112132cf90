-- The alarms of places, as a list of moments by place.
use Rattle.std.specs.Prelude.{◌≡◌, ℕ, ◌<◌, ◌≤◌, List, Option, Some, None, slice_index_or}
use Rattle.deadline_core.specs.Moments.{ComesBy, IsCovered}

-- the moment for which the alarm of a place is armed; past the end of the list none is
abbrev pub alarm_of : List (Option ℕ) → ℕ → Option ℕ
alarm_of alarms place = slice_index_or alarms place None

-- each place has the alarm that it had
abbrev pub SameAlarms : List (Option ℕ) → List (Option ℕ) → Type 0
SameAlarms old new = (place : ℕ) → alarm_of new place ≡ alarm_of old place

-- the least moment of all alarms, or none where none is armed
abbrev pub IsFirst : List (Option ℕ) → Option ℕ → Type 0
IsFirst alarms None = (place : ℕ) → alarm_of alarms place ≡ None
IsFirst alarms (Some at) = ((place : ℕ) × (alarm_of alarms place ≡ Some at))
    × ((place : ℕ) → IsCovered (alarm_of alarms place) (Some at))

-- no alarm from one place on, and before another one, is due
abbrev pub NoneDue : List (Option ℕ) → ℕ → ℕ → ℕ → Type 0
NoneDue alarms now from until = (place : ℕ) → from ≤ place → place < until →
    ¬ ComesBy (alarm_of alarms place) now

-- the first place from this one on whose alarm is due at this moment, if there is one
abbrev pub IsNextDue : List (Option ℕ) → ℕ → ℕ → Option ℕ → Type 0
IsNextDue alarms now from None =
    (place : ℕ) → from ≤ place → ¬ ComesBy (alarm_of alarms place) now
IsNextDue alarms now from (Some found) =
    (from ≤ found) × ComesBy (alarm_of alarms found) now × NoneDue alarms now from found
