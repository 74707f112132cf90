-- What the traces of copies and of accepts mean. Lists are newest first.
use Rattle.std.specs.Prelude.{◌≡◌, ◌*◌, ◌+◌, ◌^◌, min, ℕ, suc, List, [], ◌∷◌, ◌++◌, take, Ok}
use Rattle.relay_core.specs.declared.copying.Ended.{Ended}
use Rattle.relay_core.specs.declared.copying.Ended.TheVariants.{Eof}
use Rattle.relay_core.specs.declared.accept_ended.AcceptEnded.{AcceptEnded}
use Rattle.relay_core.specs.CopyTrace.{GateCall, Read, Wrote, reported}
use Rattle.relay_core.specs.Passing.{Rest, Bytes, unwritten, Passing, EndsAt, IsPassing, IsPassed}
use Rattle.relay_core.specs.AcceptTrace.{AcceptCall, Accepted, Delivered, Paused, pause_after}
use Rattle.relay_core.specs.AcceptTrace.{AcceptTrace}
use Rattle.relay_core.specs.AcceptTrace.{IsAccepting}
use Rattle.relay_core.specs.Accepting.{IsTaking, IsPausing, IsEnding, IsAcceptingSoFar}
use Rattle.rwloops.specs.Waits.{Tells}

-- the bytes that the reads gave, in the order in which they came
abbrev pub read_bytes : List GateCall → List ℕ
read_bytes [] = []
read_bytes (Read (Ok bytes) ∷ earlier) = read_bytes earlier ++ bytes
read_bytes (_ ∷ earlier) = read_bytes earlier

-- the bytes that the writes took, in order: of each as many from the front as it reported
abbrev pub taken_bytes : List GateCall → List ℕ
taken_bytes [] = []
taken_bytes (Wrote bytes answer ∷ earlier) = taken_bytes earlier ++ take (reported answer) bytes
taken_bytes (_ ∷ earlier) = taken_bytes earlier

-- what was left to write before these calls, and what they read, is what they wrote, and what is
-- left after them
abbrev pub NothingIsLost : (ℕ → ℕ → Type 0) → Type 0
NothingIsLost Takes = (from rest : Rest) (calls : List GateCall) → Passing Takes from calls rest →
    unwritten from ++ read_bytes calls ≡ taken_bytes calls ++ unwritten rest

-- of a whole copy: what was written is a front of what was read, and all of it at the reader's end
abbrev pub BytesPassInParts : (ℕ → ℕ → Type 0) → Type 0
BytesPassInParts Takes = (rest : Rest) (calls : List GateCall) (last : GateCall) (ended : Ended)
    → Passing Takes (Bytes []) calls rest → EndsAt Takes rest last ended →
    ((left : List ℕ) × (read_bytes (last ∷ calls) ≡ taken_bytes (last ∷ calls) ++ left))
    × (ended ≡ Eof → taken_bytes (last ∷ calls) ≡ read_bytes (last ∷ calls))

-- two parts of a copy, of which one begins where the other ended, are one part
abbrev pub PartsJoin : (G : Type 0) → (G → List GateCall → Type 0) → (ℕ → ℕ → Type 0) → Type 0
PartsJoin G tells Takes = (first second third : G) (old share new : ℕ) (from between rest : Rest)
    (some more reads later : ℕ)
    → IsPassing Takes (tells first) (tells second) old share from between some reads
    → IsPassing Takes (tells second) (tells third) share new between rest more later
    → IsPassing Takes (tells first) (tells third) old new from rest (some + more) (reads + later)

-- a part of a copy, and then one that ends it, are one part that ends it
abbrev pub LastPartJoins : (G : Type 0) → (G → List GateCall → Type 0) → (ℕ → ℕ → Type 0) → Type 0
LastPartJoins G tells Takes = (first second third : G) (old share new : ℕ) (from between : Rest)
    (ended : Ended) (some reads later : ℕ)
    → IsPassing Takes (tells first) (tells second) old share from between some reads
    → IsPassed Takes (tells second) (tells third) share new between ended later
    → IsPassed Takes (tells first) (tells third) old new from ended (reads + later)

-- what was accepted, newest first
abbrev pub accepted : {T : Type 0} → List (AcceptCall T) → List T
accepted [] = []
accepted (Accepted (Ok taken) ∷ earlier) = taken ∷ accepted earlier
accepted (_ ∷ earlier) = accepted earlier

-- what was delivered, newest first
abbrev pub delivered : {T : Type 0} → List (AcceptCall T) → List T
delivered [] = []
delivered (Delivered taken ∷ earlier) = taken ∷ delivered earlier
delivered (_ ∷ earlier) = delivered earlier

-- each that was accepted is delivered, once and in order, and nothing else is
abbrev pub EachIsDeliveredInOrder : Type 0 → Type 0
EachIsDeliveredInOrder T = (calls : List (AcceptCall T)) (ended : AcceptEnded)
    → AcceptTrace calls ended → delivered calls ≡ accepted calls

-- an accept task that made no call yet is at the beginning of a run
abbrev pub AcceptsBegin : {T : Type 0} (G : Type 0) → (G → List (AcceptCall T) → Type 0) → Type 0
AcceptsBegin G tells = (first : G) → IsAcceptingSoFar (tells first) (tells first) 0

-- a run so far, and a turn that took some, are a run so far
abbrev pub AcceptsGoOn : {T : Type 0} (G : Type 0) → (G → List (AcceptCall T) → Type 0) → Type 0
AcceptsGoOn G tells = (first second third : G) (old new least most : ℕ)
    → IsAcceptingSoFar (tells first) (tells second) old
    → IsTaking (tells second) (tells third) old new least most
    → IsAcceptingSoFar (tells first) (tells third) new

-- a run so far, a turn that asks for a pause, and that pause, are a run so far
abbrev pub AcceptsPause : {T : Type 0} (G : Type 0) → (G → List (AcceptCall T) → Type 0) → Type 0
AcceptsPause G tells = (first second third fourth : G) (old new most ms : ℕ)
    → IsAcceptingSoFar (tells first) (tells second) old
    → IsPausing (tells second) (tells third) old new most ms
    → Tells (tells third) (tells fourth) (Paused ms ∷ [])
    → IsAcceptingSoFar (tells first) (tells fourth) new

-- a run so far, and a turn that ended it, are a whole run of accepts
abbrev pub AcceptsEnd : {T : Type 0} (G : Type 0) → (G → List (AcceptCall T) → Type 0) → Type 0
AcceptsEnd G tells = (first second third : G) (old most : ℕ) (ended : AcceptEnded)
    → IsAcceptingSoFar (tells first) (tells second) old
    → IsEnding (tells second) (tells third) old most ended
    → IsAccepting (tells first) (tells third) ended

-- 5 ms after the first fault in a row, and twice as long after each further one, up to 1 s
abbrev pub PausesAreCapped : Type 0
PausesAreCapped = (faults : ℕ) → pause_after (suc faults) ≡ min (5 * 2 ^ faults) 1000
