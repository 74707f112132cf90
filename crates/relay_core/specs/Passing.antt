-- What a copy does through a gate that may say "not yet", and what is left to do meanwhile. Lists
-- are newest first.
use Rattle.std.specs.Prelude.{◌≡◌, ◌≢◌, ◌<◌, ◌≤◌, ◌+◌, ℕ, Bool, true, false, List, [], ◌∷◌, length}
use Rattle.std.specs.Prelude.{drop, Result, Ok, Err}
use Rattle.base_types.specs.declared.direction.Dir.{Dir}
use Rattle.base_types.specs.declared.direction.Dir.TheVariants as dir
use Rattle.rwloops.specs.Waits.{Tells}
use Rattle.rwloops.specs.declared.fault.Fault.{Fault}
use Rattle.rwloops.specs.declared.fault.Fault.TheVariants.{EndOfFile}
use Rattle.rwloops.specs.declared.fault.WriteFault.{WriteFault}
use Rattle.relay_core.specs.declared.copying.Ended.{Ended}
use Rattle.relay_core.specs.declared.copying.Ended.TheVariants.{Eof, ReadFault}
use Rattle.relay_core.specs.declared.copying.Ended.TheVariants.{WriteFault as Unwritten, CloseFault}
use Rattle.relay_core.specs.declared.copying.Ended.TheVariants.{BookFull}
use Rattle.relay_core.specs.declared.passing.Step.{Step}
use Rattle.relay_core.specs.declared.passing.Step.TheVariants.{Waits, Ended as Over}
use Rattle.relay_core.specs.CopyTrace.{GateCall, Read, Wrote, ClosedWrite, MayAnswer, reported}
use Rattle.relay_core.specs.CopyTrace.{written}
use Rattle.relay_core.specs.CopyTrace.{uncredited}

-- what a copy has to do next
pub data Rest : Type 0 where
  -- to write these bytes, which were read; where there are none, to read
  Bytes : (left : List ℕ) → Rest
  -- to close the writer: the reader's end came
  Close : Rest

-- finished calls that lead from one rest to another, where a write may take so many
-- of so many bytes
pub data Passing (Takes : ℕ → ℕ → Type 0) (from : Rest) : List GateCall → Rest → Type 0 where
  -- no call
  NoCall : Passing Takes from [] from
  -- a read comes only once nothing is left, and all that it gave is left then
  Reads : {calls : List GateCall} → Passing Takes from calls (Bytes []) → (bytes : List ℕ)
      → 0 < length bytes → Passing Takes from (Read (Ok bytes) ∷ calls) (Bytes bytes)
  -- a write is offered exactly what is left, and what it didn't take is left then
  Writes : {calls : List GateCall} {left : List ℕ} → Passing Takes from calls (Bytes left)
      → 0 < length left → (count : ℕ) → Takes (length left) count
      → Passing Takes from (Wrote left (Ok count) ∷ calls) (Bytes (drop count left))
  -- the reader's end comes only once nothing is left
  Ends : {calls : List GateCall} → Passing Takes from calls (Bytes [])
      → Passing Takes from (Read (Err EndOfFile) ∷ calls) Close

-- the last call of a copy that ended so, by what it had to do
pub data EndsAt (Takes : ℕ → ℕ → Type 0) : Rest → GateCall → Ended → Type 0 where
  -- the writer was told of the reader's end
  AtEnd : EndsAt Takes Close (ClosedWrite (Ok tt)) Eof
  -- the writer couldn't be told
  AtClose : (fault : Fault) → EndsAt Takes Close (ClosedWrite (Err fault)) (CloseFault fault)
  -- a read that failed
  AtRead : (fault : Fault) → fault ≢ EndOfFile
      → EndsAt Takes (Bytes []) (Read (Err fault)) (ReadFault fault)
  -- a write of exactly what was left, which failed and took at most all
  AtWrite : (left : List ℕ) → 0 < length left → (failed : WriteFault)
      → failed.count ≤ length left → EndsAt Takes (Bytes left) (Wrote left (Err failed))
      (Unwritten failed)
  -- a write of exactly what was left, whose count found no room in the book
  AtCredit : (left : List ℕ) → 0 < length left → (answer : Result ℕ WriteFault)
      → MayAnswer Takes (length left) answer
      → EndsAt Takes (Bytes left) (Wrote left answer) (BookFull (reported answer))

-- how many of these calls are reads
abbrev pub reads_among : List GateCall → ℕ
reads_among [] = 0
reads_among (Read answer ∷ earlier) = reads_among earlier + 1
reads_among (_ ∷ earlier) = reads_among earlier

-- a part of a copy that didn't end it, of at least so many finished calls, of which at most so many
-- are reads: what its gate tells of it, and by how much the share grew
pub record IsPassing (Takes : ℕ → ℕ → Type 0) (before now : List GateCall → Type 0) (old new : ℕ)
    (from rest : Rest) (least reads : ℕ) : Type 0 where
  pub calls : List GateCall
  pub passing : Passing Takes from calls rest
  pub many : least ≤ length calls
  pub few : reads_among calls ≤ reads
  pub told : Tells before now calls
  pub grew : new ≡ old + written calls

-- a part of a copy that ended it so, with at most so many reads
pub record IsPassed (Takes : ℕ → ℕ → Type 0) (before after : List GateCall → Type 0) (old new : ℕ)
    (from : Rest) (ended : Ended) (reads : ℕ) : Type 0 where
  pub calls : List GateCall
  pub rest : Rest
  pub last : GateCall
  pub passing : Passing Takes from calls rest
  pub ends : EndsAt Takes rest last ended
  pub few : reads_among (last ∷ calls) ≤ reads
  pub told : Tells before after (last ∷ calls)
  pub grew : new + uncredited ended ≡ old + written (last ∷ calls)

-- what a copy has to do that keeps these bytes, and to which the reader's end came or not
abbrev pub rest_of : Bool → List ℕ → Rest
rest_of true kept = Close
rest_of false kept = Bytes kept

-- the bytes that were read and aren't written
abbrev pub unwritten : Rest → List ℕ
unwritten (Bytes left) = left
unwritten Close = []

-- the direction of the next call
abbrev pub next_dir : Rest → Dir
next_dir (Bytes []) = dir.Read
next_dir (Bytes (byte ∷ left)) = dir.Write
next_dir Close = dir.Write

-- what holds of the direction where a step waits
abbrev pub IfWaits : Step → (Dir → Type 0) → Type 0
IfWaits (Waits dir) P = P dir
IfWaits _ P = Unit {0}

-- what holds of the end where a step ended a copy
abbrev pub IfEnded : Step → (Ended → Type 0) → Type 0
IfEnded (Over ended) P = P ended
IfEnded _ P = Unit {0}

-- a call stopped a copy: it can't go on before this direction is ready, and the call did nothing,
-- or the copy ended
pub data IsStop (dir : Dir) (Blocked : Dir → Type 0) (DidNothing : Type 0)
    (HasEnded : Ended → Type 0) : Step → Type 0 where
  ToWait : Blocked dir → DidNothing → IsStop dir Blocked DidNothing HasEnded (Waits dir)
  AtItsEnd : (ended : Ended) → HasEnded ended → IsStop dir Blocked DidNothing HasEnded (Over ended)
