-- Alarms as changes of timers, and when a poller has to hear of one.
use Rattle.std.specs.Prelude.{◌≡◌, ◌<◌, ℕ, Some}
use Rattle.std.specs.FinMap.{get, insert, remove}
use Rattle.std.specs.Arc.{arc_value}
use Rattle.std.specs.declared.sync.Mutex.{Mutex}
use Rattle.mio.specs.declared.waker.Waker.{Waker}
use Rattle.base_types.specs.declared.direction.Dir.TheVariants.{Read, Write}
use Rattle.deadline_core.specs.declared.deadline.Dirs.{Dirs}
use Rattle.deadline_core.specs.declared.deadline.Dirs.TheVariants.{Read as ReadAlone}
use Rattle.deadline_core.specs.declared.deadline.Dirs.TheVariants.{Write as WriteAlone, Both}
use Rattle.deadline_core.specs.DueOrder.{Slot}
use Rattle.deadline_core.specs.Timers.{Armed}
use Rattle.deadline_core.specs.declared.timers.Timers.{Timers}
use Rattle.readiness.specs.declared.timer_alarms.TimerAlarms.{TimerAlarms}

-- the moment is before those of all timers that are armed
abbrev pub ComesFirst : Armed → ℕ → Type 0
ComesFirst armed at = (slot : Slot) (moment : ℕ) → get armed slot ≡ Some moment → at < moment

-- the timers of a key, armed in these directions
abbrev pub armed_for : Dirs → Armed → ℕ → ℕ → Armed
armed_for ReadAlone armed key at = insert armed (key, Read) at
armed_for WriteAlone armed key at = insert armed (key, Write) at
armed_for Both armed key at = insert (insert armed (key, Read) at) (key, Write) at

-- the timers without those of a key in these directions
abbrev pub disarmed_for : Dirs → Armed → ℕ → Armed
disarmed_for ReadAlone armed key = remove armed (key, Read)
disarmed_for WriteAlone armed key = remove armed (key, Write)
disarmed_for Both armed key = remove (remove armed (key, Read)) (key, Write)

module _ {T A : Type 0} where
  -- the timers that these alarms arm
  abbrev pub timers_of : TimerAlarms T A → Mutex (Timers A)
  timers_of alarms = arc_value alarms.timers

  -- what these alarms wake
  abbrev pub woken_by : TimerAlarms T A → Waker
  woken_by alarms = arc_value alarms.waker
