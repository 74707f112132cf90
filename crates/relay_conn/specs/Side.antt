-- The halves of a side.
use Rattle.std.specs.Prelude.{◌≡◌, ℕ, Option, Some, None, Result, Ok, Err}
use Rattle.std.specs.Arc.{arc_value}
use Rattle.fd_descriptor.specs.CellKey.{key_of_cell}
use Rattle.fd_descriptor.specs.TaskHalf.{descriptor_of_half}
use Rattle.fd_descriptor.specs.declared.descriptor.Fd.{Fd}
use Rattle.relay_conn.specs.declared.side.OpenSide.{OpenSide}
use Rattle.rwloops.specs.declared.fault.Fault.{Fault}
use Rattle.rwloops.specs.declared.fault.Fault.TheVariants as fault

-- what a connection came to of which a half whose deadline has passed says this: nothing yet, where it
-- would wait; one that is drained can't be asked, and counts as made
abbrev pub connect_told : Result (Unit {0}) Fault → Option (Result (Unit {0}) Fault)
connect_told (Err fault.DeadlineExceeded) = None
connect_told (Err fault.Draining) = Some (Ok tt)
connect_told answer = Some answer

-- that is what its descriptor said
abbrev pub HasComeTo : Option (Result (Unit {0}) Fault) → Type 0
HasComeTo came = (answer : Result (Unit {0}) Fault) × (came ≡ connect_told answer)

module _ {X A R W C : Type 0} where
  -- the key of a descriptor
  abbrev pub key_of_descriptor : Fd X A R W C → ℕ
  key_of_descriptor descriptor = key_of_cell (arc_value descriptor.cell)

module _ {R : Type 0} where
  -- both halves of a side are of one descriptor
  abbrev pub IsWhole : OpenSide R → Type 0
  IsWhole side = descriptor_of_half side.writer ≡ descriptor_of_half side.reader

  -- the key of a side's descriptor
  abbrev pub key_of_side : OpenSide R → ℕ
  key_of_side side = key_of_descriptor (descriptor_of_half side.reader)
