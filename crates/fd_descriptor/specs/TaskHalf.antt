-- A task's half, as callers see it: its descriptor, what it has seen, and whether a call is under way.
use Rattle.std.specs.Prelude.{◌≡◌, ◌⊎◌, ℕ, Bool, true, false, List, Option, Result, Err, OnOk, IfErr}
use Rattle.std.specs.Arc.{arc_value}
use Rattle.lockword.specs.declared.directions.Direction.{Ghosts}
use Rattle.lockword.specs.declared.directions.Guards as guards
use Rattle.rwloops.specs.declared.fault.Fault.{Fault}
use Rattle.rwloops.specs.declared.fault.Fault.TheVariants as fault
use Rattle.fd_descriptor.specs.declared.descriptor.Fd.{Fd}
use Rattle.fd_descriptor.specs.declared.descriptor.FdHandle.{FdHandle}
use Rattle.fd_descriptor.specs.declared.task_half.TaskHalf.{TaskHalf}
use Rattle.fd_descriptor.specs.FdHandle.{descriptor_of, marks_of, closes_of, destroys_of, drains_of}
use Rattle.fd_descriptor.specs.FdHandle.{heard_of}
use Rattle.lockword_core.specs.declared.stake.Event.{Event}
use Rattle.fd_descriptor.specs.HalfState.{is_calling, marks_held, heard_held, MayCall, TakesHalf, half_held}
use Rattle.fd_descriptor.specs.HalfState.{operations_held, closes_held, destroys_held, drains_held}
use Rattle.lockword_core.specs.declared.stake.Op.{Op}
use Rattle.fd_descriptor.specs.HandleCalls.{Call, IsLockFault, IsOwnFault, IsRefusedEntry}
use Rattle.fd_descriptor.specs.HandleCalls.{IsShut}
use Rattle.fd_descriptor.specs.CellKey.{key_of_cell}
use Rattle.rwloops.specs.declared.outcome.DevKind.{DevKind}
use Rattle.fd_descriptor.specs.Marks.{Marks, KeepsMarks}
use Rattle.fd_descriptor.specs.Polled.{IsTriedOrRefused}

module _ {D X T A G R W C : Type 0} {kept : guards.Ghosts D R W G} {way : Ghosts D} where
  -- the descriptor that a half is of
  abbrev pub descriptor_of_half : TaskHalf D X T A G R W C kept way → Fd X A R W C
  descriptor_of_half half = arc_value half.fd

  -- the key that the descriptor's cell has for its alarms
  abbrev pub key_of_half : TaskHalf D X T A G R W C kept way → ℕ
  key_of_half half = key_of_cell (arc_value (descriptor_of_half half).cell)

  -- a call of it is under way
  abbrev pub is_under_way : TaskHalf D X T A G R W C kept way → Bool
  is_under_way half = is_calling half.state

  -- what its task has seen of the descriptor
  abbrev pub marks_of_half : TaskHalf D X T A G R W C kept way → Marks
  marks_of_half half = marks_held half.state

  -- the operations that its task has made on the descriptor's lock word, in order
  abbrev pub operations_of_half : TaskHalf D X T A G R W C kept way → List Op
  operations_of_half half = operations_held half.state

  -- what all had done on the descriptor when its task made its last operation, in one order
  abbrev pub heard_of_half : TaskHalf D X T A G R W C kept way → List Event
  heard_of_half half = heard_held half.state

  -- the half that its call under way has, where one is
  abbrev pub held_by : TaskHalf D X T A G R W C kept way → Option G
  held_by half = half_held half.state

  -- how many closes, destroys and drains its task has made
  abbrev pub closes_of_half : TaskHalf D X T A G R W C kept way → ℕ
  closes_of_half half = closes_held half.state

  abbrev pub destroys_of_half : TaskHalf D X T A G R W C kept way → ℕ
  destroys_of_half half = destroys_held half.state

  abbrev pub drains_of_half : TaskHalf D X T A G R W C kept way → ℕ
  drains_of_half half = drains_held half.state

  -- the half was made of this handle, which had seen and done the same
  pub record IsHalfOf (handle : FdHandle X A R W C) (half : TaskHalf D X T A G R W C kept way) :
      Type 0 where
    pub same : descriptor_of_half half ≡ descriptor_of handle
    pub marks : marks_of_half half ≡ marks_of handle
    pub no_close : closes_of_half half ≡ closes_of handle
    pub no_destroy : destroys_of_half half ≡ destroys_of handle
    pub no_drain : drains_of_half half ≡ drains_of handle
    pub heard : heard_of_half half ≡ heard_of handle

  -- the handle comes of this half, has seen what it had seen, and closed and drained nothing
  pub record IsHandleOf (half : TaskHalf D X T A G R W C kept way) (handle : FdHandle X A R W C) :
      Type 0 where
    pub same : descriptor_of handle ≡ descriptor_of_half half
    pub marks : KeepsMarks (marks_of_half half) (marks_of handle)
    pub no_close : closes_of handle ≡ closes_of_half half
    pub no_drain : drains_of handle ≡ drains_of_half half

  -- what every call keeps: the descriptor and what was seen, and it closes and drains nothing
  pub record KeepsHalf (before after : TaskHalf D X T A G R W C kept way) : Type 0 where
    pub same : descriptor_of_half after ≡ descriptor_of_half before
    pub marks : KeepsMarks (marks_of_half before) (marks_of_half after)
    pub no_close : closes_of_half after ≡ closes_of_half before
    pub no_drain : drains_of_half after ≡ drains_of_half before

  -- a call is under way, and its task has seen and done nothing more
  pub record StaysUnderWay (before after : TaskHalf D X T A G R W C kept way) : Type 0 where
    pub under_way : is_under_way after ≡ true
    pub marks : marks_of_half after ≡ marks_of_half before
    pub no_destroy : destroys_of_half after ≡ destroys_of_half before

  -- no call was under way, and none could begin, for this fault of the lock word
  abbrev pub IsKeptOut : TaskHalf D X T A G R W C kept way → TaskHalf D X T A G R W C kept way → Fault
      → Type 0
  IsKeptOut before after told =
      (is_under_way before ≡ false) × IsLockFault (marks_of_half before) (marks_of_half after) told

  -- a call of this kind may tell this fault: none of the lock word's once it is under way
  abbrev pub MayTellHalf : Call → TaskHalf D X T A G R W C kept way → TaskHalf D X T A G R W C kept way
      → Fault → Type 0
  MayTellHalf call before after told = IsKeptOut before after told ⊎ IsOwnFault call told

  -- a call did this with the half of its lock: the half that its task held where it was under way,
  -- and else the one that was at home; and its task holds it where it stays under way
  abbrev pub UsesItsHalf : TaskHalf D X T A G R W C kept way → TaskHalf D X T A G R W C kept way
      → (G → G → Type 0) → Type 0
  UsesItsHalf before after Did = TakesHalf before.state after.state Did

  -- the call got no lock, which is told; or it had its lock, and then its half was shut, and told this
  abbrev pub IsShutOfItsHalf : (G → Result (Unit {0}) DevKind → Type 0)
      → TaskHalf D X T A G R W C kept way → TaskHalf D X T A G R W C kept way
      → Result (Unit {0}) Fault → Type 0
  IsShutOfItsHalf told before after answer =
      ((why : Fault) × IsKeptOut before after why × (answer ≡ Err why))
      ⊎ UsesItsHalf before after (λ first last. IsShut (told last) answer)

  -- the call got no lock, which is told; or it had its lock, and then the cell refused, or its half
  -- was tried
  abbrev pub IsPolled : {Y K : Type 0} → (Fault → Y) → (G → List K → Type 0)
      → (List K → Type 0) → TaskHalf D X T A G R W C kept way → TaskHalf D X T A G R W C kept way → Y
      → Type 0
  IsPolled told tells Trace before after result =
      ((why : Fault) × IsKeptOut before after why × (result ≡ told why))
      ⊎ (MayCall before.state
      × UsesItsHalf before after (IsTriedOrRefused told tells Trace result))

  -- what holds of a call that begins where none is under way, and is under way once it is Ok
  pub record IsHalfEntry (call : Call) (before after : TaskHalf D X T A G R W C kept way)
      (result : Result (Unit {0}) Fault) : Type 0 where
    pub keeps : KeepsHalf before after
    pub begun : OnOk result (StaysUnderWay before after)
    -- its half is as it was, where it was under way as where it took it
    pub half : OnOk result (UsesItsHalf before after (λ first last. last ≡ first))
    pub idle : IfErr result (λ told. is_under_way after ≡ false)
    -- how it is refused
    pub closed : is_under_way before ≡ false → (marks_of_half before).closed ≡ true
        → result ≡ Err fault.Closed
    pub draining : is_under_way before ≡ false → (marks_of_half before).draining ≡ true
        → IsRefusedEntry result
    pub allowed : IfErr result (MayTellHalf call before after)
