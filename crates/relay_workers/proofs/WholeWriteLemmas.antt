-- A copy whose writes are each taken whole goes in rounds: a read, and one write of exactly its bytes.
use Rattle.std.proofs.Common.{◌≡◌, ◌∙◌, ◌<◌, ◌≤◌, ap, refl, ℕ, List, [], ◌∷◌, ◌++◌, length, drop, Ok, Err, arith}
use Rattle.std.proofs.lemmas.List.{drop_all}
use Rattle.rwloops.specs.declared.fault.Fault.TheVariants.{EndOfFile}
use Rattle.relay_core.specs.declared.copying.Ended.{Ended}
use Rattle.relay_core.specs.CopyTrace.{GateCall, Read, Wrote}
use Rattle.relay_workers.specs.CopyTrace.{Whole, round_calls, EndsBy, IsCopied}
use Rattle.relay_workers.specs.CopyTrace.{AtEnd as ByEnd, AtClose as ByClose, AtRead as ByRead, AtWrite as ByWrite}
use Rattle.relay_workers.specs.CopyTrace.{AtCredit as ByCredit}
use Rattle.relay_core.specs.Passing.{Rest, Bytes, Close, Passing, NoCall, Reads, Writes, Ends}
use Rattle.relay_core.specs.Passing.{EndsAt, AtEnd, AtClose, AtRead, AtWrite, AtCredit, IsPassed}

-- the read whose bytes are still to be written, or which came to the reader's end
abbrev open_calls : Rest → List GateCall
open_calls (Bytes []) = []
open_calls (Bytes (byte ∷ left)) = Read (Ok (byte ∷ left)) ∷ []
open_calls Close = Read (Err EndOfFile) ∷ []

-- where bytes are left, it is a read of exactly these
open_read : (left : List ℕ) → 0 < length left → open_calls (Bytes left) ≡ Read (Ok left) ∷ []
open_read [] some = absurd (omega (arith, some))
open_read (byte ∷ left) some = refl

-- the calls are rounds, and then the read that is open
in_rounds : {calls : List GateCall} {rest : Rest} → Passing Whole (Bytes []) calls rest
    → (rounds : List (List ℕ)) × (calls ≡ open_calls rest ++ round_calls rounds)
in_rounds NoCall = ([], refl)
in_rounds (Reads before bytes some) = let so = in_rounds before in
    (so.0, rw (open_read bytes some) (ap (λ earlier. Read (Ok bytes) ∷ earlier) so.1))
in_rounds (Writes {left = left} before some count whole) =
    let so = in_rounds before in
    let calls = so.1 ∙ ap (λ begun. begun ++ round_calls so.0) (open_read left some) in
    let all : length left ≤ count = omega (arith, whole) in
    (left ∷ so.0, rw (drop_all count left all, whole) (ap (λ earlier. Wrote left (Ok (length left)) ∷ earlier) calls))
in_rounds (Ends before) = let so = in_rounds before in (so.0, ap (λ earlier. Read (Err EndOfFile) ∷ earlier) so.1)

-- the last call ends the round that is open
ends_round : {rest : Rest} {last : GateCall} {ended : Ended} → EndsAt Whole rest last ended
    → EndsBy (last ∷ open_calls rest) ended
ends_round AtEnd = ByEnd
ends_round (AtClose fault) = ByClose fault
ends_round (AtRead fault other) = ByRead fault other
ends_round (AtWrite left some failed most) = rw (open_read left some) (ByWrite left failed most)
ends_round (AtCredit left some answer may) = rw (open_read left some) (ByCredit left answer may)

-- a whole copy
pub whole_copy : {before after : List GateCall → Type 0} {old new reads : ℕ} {ended : Ended}
    → IsPassed Whole before after old new (Bytes []) ended reads → IsCopied before after old new ended
whole_copy part = let so = in_rounds part.passing in record {
  calls = part.last ∷ part.calls;
  trace = record {
    rounds = so.0;
    last = part.last ∷ open_calls part.rest;
    in_order = ap (λ calls. part.last ∷ calls) so.1;
    ends = ends_round part.ends;
  };
  told = part.told;
  grew = part.grew;
}
