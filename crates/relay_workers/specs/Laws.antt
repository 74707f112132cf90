-- What the traces of the workers mean. Lists are newest first.
use Rattle.std.specs.Prelude.{◌≡◌, ℕ, List, [], ◌∷◌, ◌++◌, length, Result, Ok}
use Rattle.rwloops.specs.declared.fault.WriteFault.{WriteFault}
use Rattle.relay_core.specs.declared.copying.Ended.{Ended}
use Rattle.relay_core.specs.declared.copying.Ended.TheVariants.{Eof, BookFull}
use Rattle.relay_core.specs.CopyTrace.{GateCall, Read, Wrote, reported, MayAnswer}
use Rattle.relay_core.specs.Laws.{read_bytes, taken_bytes}
use Rattle.relay_core.specs.Passing.{Bytes, IsPassed}
use Rattle.relay_workers.specs.CopyTrace.{Whole, CopyTrace, IsCopied}

-- the bytes that the writes were offered, in order
abbrev pub offered_bytes : List GateCall → List ℕ
offered_bytes [] = []
offered_bytes (Wrote bytes answer ∷ earlier) = offered_bytes earlier ++ bytes
offered_bytes (_ ∷ earlier) = offered_bytes earlier

-- what a worker offers is what it read; what was taken is a front of it, and all of it at the
-- reader's end
abbrev pub BytesPassInOrder : Type 0
BytesPassInOrder = (calls : List GateCall) (ended : Ended) → CopyTrace calls ended →
    (offered_bytes calls ≡ read_bytes calls)
    × ((rest : List ℕ) × (read_bytes calls ≡ taken_bytes calls ++ rest))
    × (ended ≡ Eof → taken_bytes calls ≡ read_bytes calls)

-- where the book was full, the last call is a write of what was read last, which took all of it or
-- failed having taken a front of it, and the answer that the gate gave has the count that is told
abbrev pub FullBookTellsTheLastWrite : Type 0
FullBookTellsTheLastWrite = (calls : List GateCall) (n : ℕ) → CopyTrace calls (BookFull n) →
    (bytes : List ℕ) × (answer : Result ℕ WriteFault) × (earlier : List GateCall)
    × (calls ≡ Wrote bytes answer ∷ Read (Ok bytes) ∷ earlier)
    × MayAnswer Whole (length bytes) answer × (n ≡ reported answer)

-- a copy whose writes each take all that they are offered goes in rounds, as a worker's
abbrev pub WholeWritesMakeRounds : (G : Type 0) → (G → List GateCall → Type 0) → Type 0
WholeWritesMakeRounds G tells = (first last : G) (old new reads : ℕ) (ended : Ended)
    → IsPassed Whole (tells first) (tells last) old new (Bytes []) ended reads
    → IsCopied (tells first) (tells last) old new ended
