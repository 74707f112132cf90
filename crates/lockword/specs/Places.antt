-- The seat in each value that holds one.
use Rattle.std.specs.Prelude.{ℕ}
use Rattle.base_types.specs.declared.direction.Dir.{Dir}
use Rattle.lockword_core.specs.LockState.{owed_part}
use Rattle.lockword.specs.declared.directions.Direction.{Ghosts}
use Rattle.lockword.specs.declared.directions.Guards as guards
use Rattle.lockword.specs.declared.holders.Seat.{Seat}
use Rattle.lockword.specs.declared.holders.Ref.{Ref}
use Rattle.lockword.specs.declared.holders.Closing.{Closing}
use Rattle.lockword.specs.declared.holders.Drains.{Drains}
use Rattle.lockword.specs.declared.holders.Last.{Last}
use Rattle.lockword.specs.declared.holders.Held.{Held}
use Rattle.lockword.specs.declared.holders.Waiting.{Waiting}
use Rattle.lockword.specs.declared.holders.Owing.{Owing}
use Rattle.lockword.specs.Marks.{Place}

module _ {R W : Type 0} where
  -- a seat's place
  abbrev pub seat_place : Seat R W → Place R W
  seat_place s = s.place

  -- a reference's place
  abbrev pub ref_place : Ref R W → Place R W
  ref_place r = r.place

  -- a closer's place
  abbrev pub closing_place : Closing R W → Place R W
  closing_place c = c.place

  -- the signals that a closer still owes in a direction
  abbrev pub owed_by : Closing R W → Dir → ℕ
  owed_by c d = owed_part d c.owed_read c.owed_write

  -- a drainer's place
  abbrev pub drains_place : Drains R W → Place R W
  drains_place o = o.place

  -- the signals that a drainer still owes in a direction
  abbrev pub drains_owed : Drains R W → Dir → ℕ
  drains_owed o d = owed_part d o.owed_read o.owed_write

  -- a last holder's place
  abbrev pub last_place : Last R W → Place R W
  last_place l = l.place

  -- a lock's place
  abbrev pub lock_place : {D G : Type 0} {kept : guards.Ghosts D R W G} {way : Ghosts D}
      → Held D R W G kept way → Place R W
  lock_place l = l.place

  -- the place of one that waits for a lock
  abbrev pub wait_place : {D : Type 0} {way : Ghosts D} → Waiting D R W way → Place R W
  wait_place w = w.place

  -- the place of one that owes a signal
  abbrev pub owing_place : Owing R W → Place R W
  owing_place o = o.place

  -- the direction in which it owes
  abbrev pub owing_way : Owing R W → Dir
  owing_way o = o.dir
