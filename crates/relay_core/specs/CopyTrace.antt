-- What a copy does through its gate, call by call. Lists are newest first.
use Rattle.std.specs.Prelude.{◌≤◌, ◌+◌, ℕ, List, [], ◌∷◌, take, Result, Ok, Err}
use Rattle.rwloops.specs.declared.fault.Fault.{Fault}
use Rattle.rwloops.specs.declared.fault.WriteFault.{WriteFault}
use Rattle.relay_core.specs.declared.copying.Ended.{Ended}
use Rattle.relay_core.specs.declared.copying.Ended.TheVariants.{BookFull}

-- a call of a gate, with its bytes and its answer
pub data GateCall : Type 0 where
  Read : (answer : Result (List ℕ) Fault) → GateCall
  Wrote : (bytes : List ℕ) (answer : Result ℕ WriteFault) → GateCall
  ClosedWrite : (answer : Result (Unit {0}) Fault) → GateCall

-- a read that left the buffer so: the bytes that it gave are the first ones, as many as it counted
abbrev pub read_call : List ℕ → Result ℕ Fault → GateCall
read_call buffer (Ok count) = Read (Ok (take count buffer))
read_call buffer (Err fault) = Read (Err fault)

-- how many bytes a write reported to be written
abbrev pub reported : Result ℕ WriteFault → ℕ
reported (Ok count) = count
reported (Err failed) = failed.count

-- an answer that a gate may give to a write of so many bytes, where one that is Ok may take so many
-- of so many: one that failed took at most all
abbrev pub MayAnswer : (ℕ → ℕ → Type 0) → ℕ → Result ℕ WriteFault → Type 0
MayAnswer Takes offered (Ok count) = Takes offered count
MayAnswer Takes offered (Err failed) = failed.count ≤ offered

-- how many bytes a call wrote
abbrev pub written_by : GateCall → ℕ
written_by (Wrote bytes answer) = reported answer
written_by _ = 0

-- how many bytes a gate wrote
abbrev pub written : List GateCall → ℕ
written [] = 0
written (call ∷ earlier) = written earlier + written_by call

-- how many bytes were written without a credit
abbrev pub uncredited : Ended → ℕ
uncredited (BookFull n) = n
uncredited _ = 0
