-- What holding a socket adds to a table, and why it is refused.
use Rattle.std.specs.Prelude.{◌≡◌, ℕ, false}
use Rattle.std.specs.Arc.{arc_value}
use Rattle.conntable.specs.ConnTable.{Table, Inserts, next_token}
use Rattle.conntable.specs.Refusals.{Refuses, HasRoom}
use Rattle.fd_descriptor.specs.FdHandle.{key_of, cell_of, saw_closed}
use Rattle.fd_descriptor.specs.declared.descriptor.FdHandle.{FdHandle}
use Rattle.fd_descriptor.specs.declared.poll_cell.PollCell.{PollCell}
use Rattle.rwloops.specs.declared.outcome.DevKind.TheVariants.{Other}
use Rattle.readiness.specs.declared.holding.HeldSocket.{HeldSocket}
use Rattle.readiness.specs.declared.holding.HoldFault.{HoldFault}
use Rattle.readiness.specs.declared.holding.HoldFault.TheVariants as why

-- the cell of an entry that has no more than its descriptor
abbrev pub entry_cell : {X R W C : Type 0} → HeldSocket X R W C → PollCell
entry_cell held = arc_value held.cell

-- one entry more, under the id and the token that were next; what turns tell it comes to this cell
pub record HoldsNext {T : Type 0} (cell_in : T → PollCell) (old new : Table T)
    (cell : PollCell) : Type 0 where
  pub value : T
  pub inserts : Inserts old new old.next_id (next_token old) value
  pub tells : cell_in value ≡ cell

-- a socket isn't held for this reason: the table refuses, or it had room and the system or the
-- memory refused
abbrev pub IsHoldFault : {T : Type 0} → Table T → HoldFault → Type 0
IsHoldFault t (why.Table refusal) = Refuses t refusal
IsHoldFault t (why.Device kind) = HasRoom t × (kind ≡ Other)
IsHoldFault t why.OutOfMemory = HasRoom t

-- a descriptor isn't made of a socket: the system or the memory refused
abbrev pub IsOpenFault : HoldFault → Type 0
IsOpenFault (why.Table refusal) = ⊥
IsOpenFault (why.Device kind) = kind ≡ Other
IsOpenFault why.OutOfMemory = Unit {0}

-- a socket is held under this id, and the open handle is on the descriptor of the table's new entry
pub record IsHeld {T X A R W C : Type 0} (cell_in : T → PollCell) (old new : Table T) (id : ℕ)
    (handle : FdHandle X A R W C) : Type 0 where
  pub next : id ≡ old.next_id
  pub key : key_of handle ≡ id
  pub unclosed : saw_closed handle ≡ false
  pub added : HoldsNext cell_in old new (cell_of handle)

-- no socket is held: the table is as it was, and this is why
pub record IsNotHeld {T : Type 0} (old new : Table T) (fault : HoldFault) : Type 0 where
  pub kept : new ≡ old
  pub reason : IsHoldFault old fault
