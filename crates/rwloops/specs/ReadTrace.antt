-- The outcome trace of a read. Lists are newest first.
use Rattle.std.specs.Prelude.{◌≡◌, ℕ, zero, suc, ◌<◌, min, Bool, true, false, ◌&&◌, List, [], ◌∷◌}
use Rattle.std.specs.Prelude.{map, take, length, Result, Ok, Err, IsTrue}
use Rattle.std.specs.List.{list_all}
use Rattle.base_types.specs.declared.direction.Dir.TheVariants.{Read}
use Rattle.rwloops.specs.declared.limits.TheConstants.{MAX_TRY_BYTES}
use Rattle.rwloops.specs.declared.outcome.DevKind.TheVariants.{Aborted as DeviceAborted}
use Rattle.rwloops.specs.declared.outcome.Outcome.{Outcome}
use Rattle.rwloops.specs.declared.outcome.Outcome.TheVariants.{Count, Interrupted, Aborted}
use Rattle.rwloops.specs.declared.outcome.Outcome.TheVariants.{WouldBlock, Broken}
use Rattle.rwloops.specs.declared.fault.Fault.{Fault}
use Rattle.rwloops.specs.declared.fault.Fault.TheVariants.{EndOfFile, Device, TooManyRetries}
use Rattle.rwloops.specs.declared.retries.Next.{Next}
use Rattle.rwloops.specs.declared.retries.Next.TheVariants.{Wait, Done, Failed}
use Rattle.rwloops.specs.declared.read_loop.ReadLoop.{ReadLoop}
use Rattle.rwloops.specs.RetryBound.{newest_row, has_short_rows}
use Rattle.rwloops.specs.Outcome.{is_interrupted, is_would_block, count_in, IsCountWithin}
use Rattle.rwloops.specs.Waits.{WaitCall}
use Rattle.rwloops.specs.OutcomeTrace.{OutcomeRules, over, OutcomeTrace}

-- a read may go on after this outcome
abbrev pub read_goes_on : Outcome → Bool
read_goes_on Interrupted = true
read_goes_on WouldBlock = true
read_goes_on _ = false

-- each outcome lets the read go on, and no more than `MAX_RETRIES` in a row are `Interrupted`
abbrev pub read_is_inconclusive : List Outcome → Bool
read_is_inconclusive outcomes = list_all read_goes_on outcomes && has_short_rows is_interrupted
    outcomes

-- what a decisive outcome comes to
abbrev pub read_decision : Outcome → Next ℕ
read_decision (Count zero) = Failed EndOfFile
read_decision (Count (suc more)) = Done (suc more)
read_decision Interrupted = Failed TooManyRetries
read_decision Aborted = Failed (Device DeviceAborted)
read_decision WouldBlock = Wait
read_decision (Broken kind) = Failed (Device kind)

-- how a read takes its outcomes
abbrev pub read_rules : OutcomeRules Outcome ℕ
read_rules = record {
  dir = Read;
  blocks = is_would_block;
  is_inconclusive =
      read_is_inconclusive;
  decision = read_decision;
}

-- the loop has been fed these outcomes, and goes on
pub record ReadStandsFor (loop : ReadLoop) (fed : List Outcome) : Type 0 where
  pub row : loop.retries.in_a_row ≡ newest_row is_interrupted fed
  pub inconclusive : IsTrue (read_is_inconclusive fed)

-- a try to read: the bytes of room, the bytes given and the outcome
pub record ReadTry : Type 0 where
  pub room : ℕ
  pub gave : List ℕ
  pub outcome : Outcome

-- a try that left the buffer so: the bytes given are the first ones, as many as were counted
abbrev pub read_try : List ℕ → Outcome → ReadTry
read_try buffer outcome = record {
  room = length buffer;
  gave =
      take (count_in outcome) buffer;
  outcome = outcome;
}

-- the outcome of a try to read
abbrev pub read_outcome : ReadTry → Outcome
read_outcome made = made.outcome

-- how a read takes its tries
abbrev pub read_try_rules : OutcomeRules ReadTry ℕ
read_try_rules = over read_outcome read_rules

-- the try was offered the buffer from its front, cut to `MAX_TRY_BYTES`, and counts no more
pub record IsReadTry (len : ℕ) (made : ReadTry) (earlier : List ReadTry) : Type 0 where
  pub room : made.room ≡ min len MAX_TRY_BYTES
  pub count : IsCountWithin made.room made.outcome

-- the bytes that the newest try gave
abbrev pub newest_gave : List ReadTry → List ℕ
newest_gave [] = []
newest_gave (newest ∷ earlier) = newest.gave

-- the answer of a read that is over: a count, with the newest try's bytes in front of the buffer,
-- or the fault
abbrev pub ReadAnswers : List ℕ → Next ℕ → List ReadTry → Result ℕ Fault → Type 0
ReadAnswers buffer (Done count) tries result =
    (result ≡ Ok count) × (take count buffer ≡ newest_gave tries)
ReadAnswers buffer (Failed fault) tries result = result ≡ Err fault
ReadAnswers buffer _ tries result = ⊥

-- what a read tried, asked and answered, and left in the buffer
pub data ReadTrace (buffer : List ℕ) (tries : List ReadTry) (calls : List WaitCall)
    (result : Result ℕ Fault) : Type 0 where
  -- a buffer of length 0: nothing is asked and nothing is tried
  Empty : (length buffer ≡ 0) → (tries ≡ []) → (calls ≡ []) → (result ≡ Ok 0) →
      ReadTrace buffer tries calls result
  -- a buffer with room
  Tried : (0 < length buffer) → OutcomeTrace read_try_rules (IsReadTry (length buffer))
      (ReadAnswers buffer) tries calls result
      → ReadTrace buffer tries calls result

-- the bytes that this try gave stand in front of the buffer; only private functions cite it
abbrev pub HasRead : List ℕ → ReadTry → List ReadTry → Type 0
HasRead buffer made earlier = take (count_in made.outcome) buffer ≡ made.gave

-- the loop has been fed the outcomes of these tries, and goes on; only private functions cite it
abbrev pub StandsForTries : ReadLoop → List ReadTry → Type 0
StandsForTries loop tries = ReadStandsFor loop (map read_outcome tries)
