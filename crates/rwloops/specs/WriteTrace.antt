-- The outcome trace of a write. Lists are newest first.
use Rattle.std.specs.Prelude.{◌≡◌, ℕ, zero, suc, ◌-◌, min, Bool, true, false, ◌&&◌, List, [], ◌∷◌}
use Rattle.std.specs.Prelude.{◌++◌, map, take, drop, length, nat_lt, Result, Ok, Err, IsTrue}
use Rattle.std.specs.List.{list_all}
use Rattle.base_types.specs.declared.direction.Dir.TheVariants.{Write}
use Rattle.rwloops.specs.declared.limits.TheConstants.{MAX_TRY_BYTES}
use Rattle.rwloops.specs.declared.outcome.DevKind.TheVariants.{Aborted as DeviceAborted}
use Rattle.rwloops.specs.declared.outcome.Outcome.{Outcome}
use Rattle.rwloops.specs.declared.outcome.Outcome.TheVariants.{Count, Interrupted, Aborted}
use Rattle.rwloops.specs.declared.outcome.Outcome.TheVariants.{WouldBlock, Broken}
use Rattle.rwloops.specs.declared.fault.Fault.TheVariants.{UnexpectedEof, Device, TooManyRetries}
use Rattle.rwloops.specs.declared.fault.WriteFault.{WriteFault}
use Rattle.rwloops.specs.declared.retries.Next.{Next}
use Rattle.rwloops.specs.declared.retries.Next.TheVariants.{Wait, Done, Failed}
use Rattle.rwloops.specs.declared.write_loop.WriteLoop.{WriteLoop}
use Rattle.rwloops.specs.RetryBound.{newest_row, has_short_rows}
use Rattle.rwloops.specs.Outcome.{is_interrupted, is_would_block, count_in, sum_of_counts}
use Rattle.rwloops.specs.Outcome.{IsCountWithin}
use Rattle.rwloops.specs.Waits.{WaitCall, Prepared}
use Rattle.rwloops.specs.OutcomeTrace.{OutcomeRules, over, OutcomeTrace}

-- a write may go on after this outcome
abbrev pub write_goes_on : Outcome → Bool
write_goes_on (Count zero) = false
write_goes_on (Count (suc more)) = true
write_goes_on Interrupted = true
write_goes_on WouldBlock = true
write_goes_on _ = false

-- each outcome lets the write go on, bytes are left, and no more than `MAX_RETRIES` in a row are
-- `Interrupted`
abbrev pub write_is_inconclusive : ℕ → List Outcome → Bool
write_is_inconclusive len outcomes = list_all write_goes_on outcomes &&
    (nat_lt (sum_of_counts outcomes) len && has_short_rows is_interrupted outcomes)

-- what a decisive outcome comes to
abbrev pub write_decision : ℕ → Outcome → Next ℕ
write_decision len (Count zero) = Failed UnexpectedEof
write_decision len (Count (suc more)) = Done len
write_decision len Interrupted = Failed TooManyRetries
write_decision len Aborted = Failed (Device DeviceAborted)
write_decision len WouldBlock = Wait
write_decision len (Broken kind) = Failed (Device kind)

-- how a write of so many bytes takes its outcomes
abbrev pub write_rules : ℕ → OutcomeRules Outcome ℕ
write_rules len = record {
  dir = Write;
  blocks = is_would_block;
  is_inconclusive =
      write_is_inconclusive len;
  decision = write_decision len;
}

-- the loop has been fed these outcomes of a write of so many bytes, and goes on
pub record WriteStandsFor (loop : WriteLoop) (len : ℕ) (fed : List Outcome) : Type 0 where
  pub length : loop.len ≡ len
  pub count : loop.count ≡ sum_of_counts fed
  pub row : loop.retries.in_a_row ≡ newest_row is_interrupted fed
  pub inconclusive : IsTrue (write_is_inconclusive len fed)

-- the sum of the counts that the loop has been fed
abbrev pub written : WriteLoop → ℕ
written loop = loop.count

-- the count is at most what the next try is offered
abbrev pub IsOfferedCount : ℕ → List Outcome → Outcome → Type 0
IsOfferedCount len fed outcome = IsCountWithin (min (len - sum_of_counts fed) MAX_TRY_BYTES) outcome

-- a try to write: the bytes offered and the outcome
pub record WriteTry : Type 0 where
  pub offered : List ℕ
  pub outcome : Outcome

-- the outcome of a try to write
abbrev pub write_outcome : WriteTry → Outcome
write_outcome made = made.outcome

-- how a write of so many bytes takes its tries
abbrev pub write_try_rules : ℕ → OutcomeRules WriteTry ℕ
write_try_rules len = over write_outcome (write_rules len)

-- the sum of the counts of the tries
abbrev pub count_of : List WriteTry → ℕ
count_of tries = sum_of_counts (map write_outcome tries)

-- the bytes that are left after so many, from the front and cut to `MAX_TRY_BYTES`
abbrev pub chunk_after : List ℕ → ℕ → List ℕ
chunk_after bytes done = take (min (length bytes - done) MAX_TRY_BYTES) (drop done bytes)

-- the try was offered the bytes after the counts so far, cut to `MAX_TRY_BYTES`, and counts no more
pub record IsWriteTry (bytes : List ℕ) (made : WriteTry) (earlier : List WriteTry) : Type 0 where
  pub offered : made.offered ≡ chunk_after bytes (count_of earlier)
  pub count : IsCountWithin (length made.offered) made.outcome

-- the bytes that the tries counted, in the order in which they were taken
abbrev pub taken_bytes : List WriteTry → List ℕ
taken_bytes [] = []
taken_bytes (made ∷ earlier) = taken_bytes earlier ++ take (count_in made.outcome) made.offered

-- the answer of a write that is over: all bytes, or the fault with the sum of the counts
abbrev pub WriteAnswers : Next ℕ → List WriteTry → Result ℕ WriteFault → Type 0
WriteAnswers (Done len) tries result = (result ≡ Ok len) × (count_of tries ≡ len)
WriteAnswers (Failed fault) tries result =
    result ≡ Err (record { fault = fault; count = count_of tries })
WriteAnswers _ tries result = ⊥

-- what a write tried, asked and answered
pub data WriteTrace (bytes : List ℕ) (tries : List WriteTry) (calls : List WaitCall)
    (result : Result ℕ WriteFault) : Type 0 where
  -- no bytes, and prepare was granted: nothing is tried
  Empty : (length bytes ≡ 0) → (tries ≡ []) → (calls ≡ Prepared Write (Ok tt) ∷ []) →
      (result ≡ Ok 0)
      → WriteTrace bytes tries calls result
  -- bytes to write, or a prepare that was refused
  Tried : OutcomeTrace (write_try_rules (length bytes))
      (IsWriteTry bytes) WriteAnswers tries calls result → WriteTrace bytes tries calls result

-- the loop knows the sum of the counts, with this try's; only private functions cite it
abbrev pub HasWritten : WriteLoop → WriteTry → List WriteTry → Type 0
HasWritten loop made earlier = written loop ≡ count_of (made ∷ earlier)

-- the loop has been fed the outcomes of these tries, and goes on; only private functions cite it
abbrev pub StandsForTries : WriteLoop → ℕ → List WriteTry → Type 0
StandsForTries loop len tries = WriteStandsFor loop len (map write_outcome tries)
