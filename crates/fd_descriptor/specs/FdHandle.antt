-- A handle, as callers see it: its descriptor, the descriptor's key and cell, and what it has seen.
use Rattle.std.specs.Prelude.{◌≡◌, ℕ, Bool, false, List, []}
use Rattle.std.specs.Arc.{arc_value}
use Rattle.fd_descriptor.specs.declared.descriptor.Fd.{Fd}
use Rattle.fd_descriptor.specs.declared.descriptor.FdHandle.{FdHandle}
use Rattle.fd_descriptor.specs.declared.poll_cell.PollCell.{PollCell}
use Rattle.fd_descriptor.specs.CellKey.{key_of_cell}
use Rattle.fd_descriptor.specs.Marks.{Marks, KeepsMarks, marks_in, closes_in, destroys_in}
use Rattle.fd_descriptor.specs.Marks.{drains_in, operations_in, heard_in, LooksThrough}
use Rattle.fd_descriptor.specs.HalfUse.{UsesHome}
use Rattle.base_types.specs.declared.direction.Dir.TheVariants.{Read, Write}
use Rattle.lockword.specs.Directions.{half_of}
use Rattle.lockword.specs.History.{GoesOn}
use Rattle.lockword_core.specs.declared.stake.Op.{Op}
use Rattle.lockword_core.specs.declared.stake.Event.{Event}
use Rattle.lockword_core.specs.declared.word.Word.{Word}

module _ {X A R W C : Type 0} where
  -- the descriptor that a handle is on
  abbrev pub descriptor_of : FdHandle X A R W C → Fd X A R W C
  descriptor_of h = arc_value h.fd

  -- where calls on the descriptor wait
  abbrev pub cell_of : FdHandle X A R W C → PollCell
  cell_of h = arc_value (descriptor_of h).cell

  -- the key that the descriptor was opened with, which its cell has for its alarms
  abbrev pub key_of : FdHandle X A R W C → ℕ
  key_of h = key_of_cell (cell_of h)

  -- what the system is asked by about the descriptor's socket
  abbrev pub control_of : FdHandle X A R W C → C
  control_of h = (descriptor_of h).control

  -- what the handle has seen
  abbrev pub marks_of : FdHandle X A R W C → Marks
  marks_of h = marks_in h.seat

  -- the handle saw that the descriptor is closed
  abbrev pub saw_closed : FdHandle X A R W C → Bool
  saw_closed h = (marks_of h).closed

  -- the handle saw that the halves are destroyed
  abbrev pub saw_done : FdHandle X A R W C → Bool
  saw_done h = (marks_of h).done

  -- the handle saw that the descriptor is draining
  abbrev pub saw_draining : FdHandle X A R W C → Bool
  saw_draining h = (marks_of h).draining

  -- how many times this handle set the descriptor's closed flag
  abbrev pub closes_of : FdHandle X A R W C → ℕ
  closes_of h = closes_in h.seat

  -- how many times this handle destroyed the halves
  abbrev pub destroys_of : FdHandle X A R W C → ℕ
  destroys_of h = destroys_in h.seat

  -- how many times this handle set the descriptor's drain flag
  abbrev pub drains_of : FdHandle X A R W C → ℕ
  drains_of h = drains_in h.seat

  -- the operations that this handle has made on the descriptor's lock word, in order
  abbrev pub operations_of_handle : FdHandle X A R W C → List Op
  operations_of_handle h = operations_in h.seat

  -- a call took its lock and did this with the half that was at home just before, and left it at home so
  abbrev pub UsesReadHalf : FdHandle X A R W C → FdHandle X A R W C → (R → R → Type 0) → Type 0
  UsesReadHalf before after Done =
      UsesHome R W Read (half_of Read) (operations_of_handle before) (operations_of_handle after) Done

  -- the same of the write half
  abbrev pub UsesWriteHalf : FdHandle X A R W C → FdHandle X A R W C → (W → W → Type 0) → Type 0
  UsesWriteHalf before after Done =
      UsesHome R W Write (half_of Write) (operations_of_handle before) (operations_of_handle after) Done

  -- what all handles had done when this one made its last operation or look, in one order
  abbrev pub heard_of : FdHandle X A R W C → List Event
  heard_of h = heard_in h.seat

  -- what a look shows to a handle, as it shows it to the handle's seat: the word was so at a moment
  -- that goes on from what the handle had heard
  abbrev pub LooksAt : FdHandle X A R W C → FdHandle X A R W C → Word → Type 0
  LooksAt before after word = LooksThrough before.seat after.seat word

-- what every call keeps of its handle
pub record KeepsHandle {X A R W C : Type 0} (before after : FdHandle X A R W C) : Type 0 where
  -- the handle stays on its descriptor
  pub same : descriptor_of after ≡ descriptor_of before
  -- what was seen stays seen
  pub marks : KeepsMarks (marks_of before) (marks_of after)

-- what a handle has heard goes on from what it had heard
abbrev pub HearsOn : {X A R W C : Type 0} → FdHandle X A R W C → FdHandle X A R W C → Type 0
HearsOn before after = GoesOn (heard_of before) (heard_of after)

-- what a call keeps that neither closes, nor destroys, nor drains
pub record KeepsDeeds {X A R W C : Type 0} (before after : FdHandle X A R W C) : Type 0 where
  pub no_close : closes_of after ≡ closes_of before
  pub no_destroy : destroys_of after ≡ destroys_of before
  pub no_drain : drains_of after ≡ drains_of before

-- a handle that has closed nothing, destroyed nothing and drained nothing so far
pub record DidNothing {X A R W C : Type 0} (handle : FdHandle X A R W C) : Type 0 where
  pub no_close : closes_of handle ≡ 0
  pub no_destroy : destroys_of handle ≡ 0
  pub no_drain : drains_of handle ≡ 0

-- the first handle on a descriptor that was opened with this key: it has seen nothing, and done nothing
pub record IsFirst {X A R W C : Type 0} (given : ℕ) (handle : FdHandle X A R W C) : Type 0 where
  pub key : key_of handle ≡ given
  pub unclosed : saw_closed handle ≡ false
  pub undrained : saw_draining handle ≡ false
  pub not_done : saw_done handle ≡ false
  pub idle : DidNothing handle
  pub none_heard : heard_of handle ≡ []
