-- What a worker does through its gate, and how its share grows. Lists are newest first.
use Rattle.std.specs.Prelude.{◌≡◌, ◌≢◌, ◌≤◌, ◌+◌, ℕ, List, [], ◌∷◌, ◌++◌, length, Result, Ok, Err}
use Rattle.rwloops.specs.Waits.{Tells}
use Rattle.rwloops.specs.declared.fault.Fault.{Fault}
use Rattle.rwloops.specs.declared.fault.Fault.TheVariants.{EndOfFile}
use Rattle.rwloops.specs.declared.fault.WriteFault.{WriteFault}
use Rattle.relay_core.specs.declared.copying.Ended.{Ended}
use Rattle.relay_core.specs.declared.copying.Ended.TheVariants.{Eof, ReadFault}
use Rattle.relay_core.specs.declared.copying.Ended.TheVariants.{WriteFault as Unwritten, CloseFault}
use Rattle.relay_core.specs.declared.copying.Ended.TheVariants.{BookFull}
use Rattle.relay_core.specs.CopyTrace.{GateCall, Read, Wrote, ClosedWrite, reported, MayAnswer, written}
use Rattle.relay_core.specs.CopyTrace.{uncredited}

-- a write that is Ok took all that it was offered
abbrev pub Whole : ℕ → ℕ → Type 0
Whole offered count = count ≡ offered

-- rounds that went well: each read is directly followed by one write of exactly its bytes, which
-- takes them all
abbrev pub round_calls : List (List ℕ) → List GateCall
round_calls [] = []
round_calls (bytes ∷ earlier) =
    Wrote bytes (Ok (length bytes)) ∷ Read (Ok bytes) ∷ round_calls earlier

-- the last calls of a worker that ended so
pub data EndsBy : List GateCall → Ended → Type 0 where
  -- the reader's end, which the writer was told
  AtEnd : EndsBy (ClosedWrite (Ok tt) ∷ Read (Err EndOfFile) ∷ []) Eof
  -- the reader's end, which the writer couldn't be told
  AtClose : (fault : Fault)
      → EndsBy (ClosedWrite (Err fault) ∷ Read (Err EndOfFile) ∷ []) (CloseFault fault)
  -- a read that failed
  AtRead : (fault : Fault) → fault ≢ EndOfFile → EndsBy (Read (Err fault) ∷ []) (ReadFault fault)
  -- a write of exactly the bytes that were read, which failed
  AtWrite : (bytes : List ℕ) (failed : WriteFault) → failed.count ≤ length bytes
      → EndsBy (Wrote bytes (Err failed) ∷ Read (Ok bytes) ∷ []) (Unwritten failed)
  -- a write of exactly these bytes, which took all of them or failed, and whose count found no room
  -- in the book
  AtCredit : (bytes : List ℕ) (answer : Result ℕ WriteFault)
      → MayAnswer Whole (length bytes) answer
      → EndsBy (Wrote bytes answer ∷ Read (Ok bytes) ∷ []) (BookFull (reported answer))

-- the calls of a worker from its beginning to its end: rounds, and the last calls
pub record CopyTrace (calls : List GateCall) (ended : Ended) : Type 0 where
  pub rounds : List (List ℕ)
  pub last : List GateCall
  pub in_order : calls ≡ last ++ round_calls rounds
  pub ends : EndsBy last ended

-- a worker's run: what its gate tells of it, and by how much the share grew
pub record IsCopied (before after : List GateCall → Type 0) (old new : ℕ)
    (ended : Ended) : Type 0 where
  pub calls : List GateCall
  pub trace : CopyTrace calls ended
  pub told : Tells before after calls
  pub grew : new + uncredited ended ≡ old + written calls

-- a part of a worker's run in which nothing ended it: rounds that went well, and by how much the
-- share grew
pub record IsCopiedSoFar (before now : List GateCall → Type 0) (old new : ℕ) : Type 0 where
  pub rounds : List (List ℕ)
  pub told : Tells before now (round_calls rounds)
  pub grew : new ≡ old + written (round_calls rounds)
