-- Parts of a copy: of no call, of one call, and one after another.
use Rattle.std.proofs.Common.{◌≡◌, ◌<◌, ◌≤◌, ◌+◌, ℕ, Bool, true, false, IfOk, IfErr, List, [], ◌∷◌, ◌++◌, length, refl}
use Rattle.std.proofs.Common.{Result, Ok, Err}
use Rattle.std.proofs.Common.{append_assoc, length-append, arith}
use Rattle.rwloops.specs.Waits.{Tells}
use Rattle.relay_core.specs.declared.copying.Ended.{Ended}
use Rattle.relay_core.specs.declared.passing.Step.{Step}
use Rattle.relay_core.specs.declared.passing.Step.TheVariants.{Again, Ended as Over}
use Rattle.base_types.specs.declared.direction.Dir.{Dir}
use Rattle.base_types.specs.declared.direction.Dir.TheVariants.{Write}
use Rattle.relay_core.specs.CopyTrace.{GateCall, Read, Wrote, ClosedWrite, written, written_by, uncredited}
use Rattle.relay_core.specs.Passing.{Rest, Bytes, Passing, NoCall, Reads, Writes, Ends, EndsAt, IsPassing, IsPassed}
use Rattle.relay_core.specs.Passing.{reads_among, unwritten, rest_of, next_dir, IfWaits, IfEnded, IsStop, ToWait}
use Rattle.relay_core.specs.Passing.{AtItsEnd}

-- no call is told
pub no_call : {Takes : ℕ → ℕ → Type 0} {before now : List GateCall → Type 0} {from : Rest} (amount : ℕ)
    → Tells before now [] → IsPassing Takes before now amount amount from from 0 0
no_call amount told = record {
  calls = [];
  passing = NoCall;
  many = omega arith;
  few = omega arith;
  told = told;
  grew = omega arith;
}

-- one call is told
pub one_call : {Takes : ℕ → ℕ → Type 0} {before now : List GateCall → Type 0}
    {old new : ℕ} {from rest : Rest} {call : GateCall}
    → Passing Takes from (call ∷ []) rest → Tells before now (call ∷ []) → new ≡ old + written_by call
    → IsPassing Takes before now old new from rest 1 (reads_among (call ∷ []))
one_call {call = call} passing told grew = record {
  calls = call ∷ [];
  passing = passing;
  many = omega arith;
  few = omega arith;
  told = told;
  grew = omega (arith, grew);
}

-- the last call is told, and none before it
pub last_call : {Takes : ℕ → ℕ → Type 0} {before now : List GateCall → Type 0}
    {old new : ℕ} {rest : Rest} {last : GateCall}
    {ended : Ended} → EndsAt Takes rest last ended → Tells before now (last ∷ [])
    → new + uncredited ended ≡ old + written_by last
    → IsPassed Takes before now old new rest ended (reads_among (last ∷ []))
last_call {rest = rest} {last = last} ends told grew = record {
  calls = [];
  rest = rest;
  last = last;
  passing = NoCall;
  ends = ends;
  few = omega arith;
  told = told;
  grew = omega (arith, grew);
}

-- calls, and then more calls
pub passing_on : {Takes : ℕ → ℕ → Type 0} {a b c : Rest} {earlier later : List GateCall}
    → Passing Takes a earlier b → Passing Takes b later c → Passing Takes a (later ++ earlier) c
passing_on first NoCall = first
passing_on first (Reads before bytes some) = Reads (passing_on first before) bytes some
passing_on first (Writes before some count takes) = Writes (passing_on first before) some count takes
passing_on first (Ends before) = Ends (passing_on first before)

-- what was written by calls, of which some came later
written_append : (later earlier : List GateCall) → written (later ++ earlier) ≡ written earlier + written later
written_append [] earlier = omega (arith)
written_append (call ∷ later) earlier = let before = written_append later earlier in omega (arith, before)

-- how many reads are among calls, of which some came later
reads_append : (later earlier : List GateCall)
    → reads_among (later ++ earlier) ≡ reads_among earlier + reads_among later
reads_append [] earlier = omega (arith)
reads_append (Read answer ∷ later) earlier = let before = reads_append later earlier in omega (arith, before)
reads_append (Wrote bytes answer ∷ later) earlier = reads_append later earlier
reads_append (ClosedWrite answer ∷ later) earlier = reads_append later earlier

-- two parts make one
pub then_passing : {Takes : ℕ → ℕ → Type 0} {before now after : List GateCall → Type 0}
    {old share new : ℕ} {a b c : Rest}
    {some more reads later : ℕ} → IsPassing Takes before now old share a b some reads
    → IsPassing Takes now after share new b c more later
    → IsPassing Takes before after old new a c (some + more) (reads + later)
then_passing first next = record {
  calls = next.calls ++ first.calls;
  passing = passing_on first.passing next.passing;
  many = simp length-append (omega (arith, first.many, next.many));
  few = let sum = reads_append next.calls first.calls in omega (arith, first.few, next.few, sum);
  told = λ calls h. rw (append_assoc next.calls first.calls calls) (next.told _ (first.told calls h));
  grew = let sum = written_append next.calls first.calls in omega (arith, first.grew, next.grew, sum);
}

-- at least so many calls are also at least fewer, and at most so many reads also at most more
pub within : {Takes : ℕ → ℕ → Type 0} {before now : List GateCall → Type 0}
    {old new : ℕ} {from rest : Rest} {least reads : ℕ}
    (fewer more : ℕ) → fewer ≤ least → reads ≤ more → IsPassing Takes before now old new from rest least reads
    → IsPassing Takes before now old new from rest fewer more
within fewer more is below part = record {
  calls = part.calls;
  passing = part.passing;
  many = omega (arith, is, part.many);
  few = omega (arith, below, part.few);
  told = part.told;
  grew = part.grew;
}

-- a part, and then one that ends the copy
pub then_passed : {Takes : ℕ → ℕ → Type 0} {before now after : List GateCall → Type 0} {old share new : ℕ} {a b : Rest}
    {ended : Ended} {some reads later : ℕ} → IsPassing Takes before now old share a b some reads
    → IsPassed Takes now after share new b ended later → IsPassed Takes before after old new a ended (reads + later)
then_passed first next = record {
  calls = next.calls ++ first.calls;
  rest = next.rest;
  last = next.last;
  passing = passing_on first.passing next.passing;
  ends = next.ends;
  few = let sum = reads_append (next.last ∷ next.calls) first.calls in omega (arith, first.few, next.few, sum);
  told = λ calls h. rw (append_assoc next.calls first.calls calls) (next.told _ (first.told calls h));
  grew = let sum = written_append (next.last ∷ next.calls) first.calls in omega (arith, first.grew, next.grew, sum);
}

-- at most so many reads are also at most more
pub passed_within : {Takes : ℕ → ℕ → Type 0} {before after : List GateCall → Type 0}
    {old new : ℕ} {from : Rest} {ended : Ended}
    {reads : ℕ} (more : ℕ) → reads ≤ more → IsPassed Takes before after old new from ended reads
    → IsPassed Takes before after old new from ended more
passed_within more below part = record {
  calls = part.calls;
  rest = part.rest;
  last = part.last;
  passing = part.passing;
  ends = part.ends;
  few = omega (arith, below, part.few);
  told = part.told;
  grew = part.grew;
}

-- a copy that may read has not come to the reader's end
pub not_at_end : (at_end : Bool) (kept left : List ℕ) → rest_of at_end kept ≡ Bytes left → at_end ≡ false
not_at_end true kept left is = absurd (cc)
not_at_end false kept left is = refl

-- what is left of a copy that has bytes left is what it kept
pub left_of : (at_end : Bool) (kept : List ℕ) → 0 < length (unwritten (rest_of at_end kept))
    → rest_of at_end kept ≡ Bytes kept
left_of true kept some = absurd (omega (arith, some))
left_of false kept some = refl

-- a copy that has bytes left writes next
pub writes_next : (left : List ℕ) → 0 < length left → next_dir (Bytes left) ≡ Write
writes_next [] some = absurd (omega (arith, some))
writes_next (byte ∷ left) some = refl

-- what a stop means after a part of the copy
pub stop_after : {dir way : Dir} {Blocked : Dir → Type 0} {Stays Stayed : Type 0} {HasEnded WasEnded : Ended → Type 0}
    {step : Step} → way ≡ dir → (Stays → Stayed) → ((ended : Ended) → HasEnded ended → WasEnded ended)
    → IsStop dir Blocked Stays HasEnded step → IsStop way Blocked Stayed WasEnded step
stop_after same stays ends (ToWait blocked nothing) = rw same (ToWait blocked (stays nothing))
stop_after same stays ends (AtItsEnd ended over) = AtItsEnd ended (ends ended over)

-- a stop is no pause for others
pub no_pause : {dir : Dir} {Blocked : Dir → Type 0} {Stays : Type 0} {HasEnded : Ended → Type 0}
    {step : Step} (P : Type 0)
    → IsStop dir Blocked Stays HasEnded step → step ≡ Again → P
no_pause P (ToWait blocked nothing) is = absurd (cc)
no_pause P (AtItsEnd ended over) is = absurd (cc)

-- where a stop waits, the call did nothing
pub open_at_stop : {dir : Dir} {Blocked : Dir → Type 0} {Stays : Type 0} {HasEnded : Ended → Type 0} {step : Step}
    → IsStop dir Blocked Stays HasEnded step → IfWaits step (λ way. Stays)
open_at_stop (ToWait blocked nothing) = nothing
open_at_stop (AtItsEnd ended over) = tt

-- where a stop ended the copy
pub ended_at_stop : {dir : Dir} {Blocked : Dir → Type 0} {Stays : Type 0} {HasEnded : Ended → Type 0} {step : Step}
    → IsStop dir Blocked Stays HasEnded step → IfEnded step HasEnded
ended_at_stop (ToWait blocked nothing) = tt
ended_at_stop (AtItsEnd ended over) = over

-- where a stop waits, its direction is blocked
pub blocked_at_stop : {dir : Dir} {Blocked : Dir → Type 0} {Stays : Type 0} {HasEnded : Ended → Type 0} {step : Step}
    → IsStop dir Blocked Stays HasEnded step → IfWaits step Blocked
blocked_at_stop (ToWait blocked nothing) = blocked
blocked_at_stop (AtItsEnd ended over) = tt

-- where a stop waits, it is in this direction
pub way_at_stop : {dir : Dir} {Blocked : Dir → Type 0} {Stays : Type 0} {HasEnded : Ended → Type 0} {step : Step}
    → IsStop dir Blocked Stays HasEnded step → IfWaits step (λ way. way ≡ dir)
way_at_stop (ToWait blocked nothing) = refl
way_at_stop (AtItsEnd ended over) = tt

-- what follows of an Ok
pub if_ok : (result : Result (Unit {0}) Step) (P Q : Type 0) → (P → Q) → IfOk result (λ _. P) → IfOk result (λ _. Q)
if_ok (Ok done) P Q so holds = so holds
if_ok (Err step) P Q so holds = tt

-- what follows of an error
pub if_err : (result : Result (Unit {0}) Step) (P Q : Step → Type 0) → ((step : Step) → P step → Q step)
    → IfErr result P → IfErr result Q
if_err (Ok done) P Q so holds = tt
if_err (Err step) P Q so holds = so step holds
