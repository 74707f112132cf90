-- What cells are told by a turn. Lists of what is told are newest first.
use Rattle.std.specs.Prelude.{ℕ, List, [], ◌∷◌, ◌++◌, Option, Some, None, if◌then◌else◌}
use Rattle.base_types.specs.declared.direction.Dir.{Dir}
use Rattle.base_types.specs.declared.direction.Dir.TheVariants.{Read, Write}
use Rattle.conntable.specs.declared.table.Entry.{Entry}
use Rattle.conntable.specs.ConnTable.{value_with_id}
use Rattle.fd_descriptor.specs.declared.poll_cell.PollCell.{PollCell}
use Rattle.readiness.specs.declared.batch.Ready.{Ready}

-- a cell is shown the clock, or told that a direction is ready
pub data CellCall : Type 0 where
  Ticked : (cell : PollCell) (now : ℕ) → CellCall
  Notified : (cell : PollCell) (dir : Dir) → CellCall

-- a cell is told of each direction that is ready, and of no other
abbrev pub notices : PollCell → Ready → List CellCall
notices cell ready = (if ready.write then Notified cell Write ∷ [] else [])
    ++ (if ready.read then Notified cell Read ∷ [] else [])

-- what the cell of an entry is told, where there is one
abbrev pub told_to : {T : Type 0} → (T → PollCell) → (PollCell → List CellCall) → Option T →
    List CellCall
told_to cell_in calls None = []
told_to cell_in calls (Some entry) = calls (cell_in entry)

module _ {T : Type 0} where
  -- what the entry of this id is told of what is ready of it
  abbrev pub notices_of_entry : (T → PollCell) → List (Entry T) → Ready → List CellCall
  notices_of_entry cell_in entries ready =
      told_to cell_in (λ cell. notices cell ready) (value_with_id ready.id entries)

  -- the entry whose id is the key of a due timer is shown the clock
  abbrev pub tick_of_entry : (T → PollCell) → List (Entry T) → ℕ → ℕ × Dir → List CellCall
  tick_of_entry cell_in entries now due =
      told_to cell_in (λ cell. Ticked cell now ∷ []) (value_with_id due.0 entries)

-- what is told of each, of the first one first
abbrev pub told_in_turn : {A C : Type 0} → (A → List C) → List A → List C
told_in_turn told_of [] = []
told_in_turn told_of (one ∷ rest) = told_in_turn told_of rest ++ told_of one
