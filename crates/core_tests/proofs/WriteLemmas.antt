-- How many bytes a write took, by the sum of its counts.
use Rattle.std.proofs.Common.{◌≡◌, ◌∙◌, sym, ap, ℕ, zero, suc, List, length, take, Result, Ok, Err}
use Rattle.deadline_core.specs.declared.refusal.Refusal.TheVariants.{Closed}
use Rattle.rwloops.specs.declared.fault.WriteFault.{WriteFault}
use Rattle.rwloops.specs.declared.outcome.Outcome.{Outcome}
use Rattle.rwloops.specs.declared.outcome.Outcome.TheVariants.{Count, Interrupted, Aborted, WouldBlock, Broken}
use Rattle.rwloops.specs.declared.tries.Progress.{Progress}
use Rattle.rwloops.specs.declared.tries.Progress.TheVariants.{Whole, Part, Failed}
use Rattle.rwloops.specs.Waits.{WaitCall}
use Rattle.rwloops.specs.TryNow.{WriteNow}
use Rattle.rwloops.specs.OutcomeTrace.{Refused, WaitRefused, Decided}
use Rattle.rwloops.specs.WriteTrace.{WriteTry, write_decision, count_of, taken_bytes, WriteAnswers, WriteTrace}
use Rattle.rwloops.specs.WriteTrace.{Empty, Tried}
use Rattle.core_tests.specs.Recorded.{count_by, count_by_answer}

-- a decision that answers a count answers the sum of the counts
decided_sum : (len : ℕ) (tries : List WriteTry) (outcome : Outcome) (count : ℕ) →
    WriteAnswers (write_decision len outcome) tries (Ok count) → count_of tries ≡ count
decided_sum len tries (Count zero) count answer = cc
decided_sum len tries (Count (suc more)) count answer = cc (answer.0, answer.1)
decided_sum len tries Interrupted count answer = cc
decided_sum len tries Aborted count answer = cc
decided_sum len tries WouldBlock count answer = absurd answer
decided_sum len tries (Broken kind) count answer = cc

-- a count that a write answers is the sum of its counts
sum_of_whole : (bytes : List ℕ) (tries : List WriteTry) (calls : List WaitCall) (count : ℕ) →
    WriteTrace bytes tries calls (Ok count) → count_of tries ≡ count
sum_of_whole bytes tries calls count (Empty none no_tries asked answer) =
    let nothing : count_of tries ≡ 0 = ap count_of no_tries in cc
sum_of_whole bytes tries calls count (Tried (Refused refusal no_tries asked answer)) = cc
sum_of_whole bytes tries calls count (Tried (WaitRefused refusal newest earlier are blocks undecided offered asked
    answer)) = cc
sum_of_whole bytes tries calls count (Tried (Decided newest earlier are undecided decisive offered asked answer)) =
    decided_sum (length bytes) tries newest.outcome count answer

module _ (taken : (bytes : List ℕ) (tries : List WriteTry) (calls : List WaitCall) (result : Result ℕ WriteFault) →
    WriteTrace bytes tries calls result → taken_bytes tries ≡ take (count_of tries) bytes)
    (fault : (bytes : List ℕ) (tries : List WriteTry) (calls : List WaitCall) (failed : WriteFault) →
    WriteTrace bytes tries calls (Err failed) → failed.count ≡ count_of tries) where
  -- the bytes that a write took, by its answer
  pub taken_by_answer : (bytes : List ℕ) (tries : List WriteTry) (calls : List WaitCall)
      (result : Result ℕ WriteFault) → WriteTrace bytes tries calls result →
      taken_bytes tries ≡ take (count_by_answer result) bytes
  taken_by_answer bytes tries calls (Ok count) trace = taken bytes tries calls (Ok count) trace ∙
      ap (λ n. take n bytes) (sum_of_whole bytes tries calls count trace)
  taken_by_answer bytes tries calls (Err failed) trace = taken bytes tries calls (Err failed) trace ∙
      ap (λ n. take n bytes) (sym (fault bytes tries calls failed trace))

  -- the same of one that doesn't wait
  pub taken_by : (bytes : List ℕ) (tries : List WriteTry) (result : Progress) → WriteNow bytes tries result →
      taken_bytes tries ≡ take (count_by (length bytes) result) bytes
  taken_by bytes tries Whole now = taken_by_answer bytes tries now.calls (Ok (length bytes)) now.trace
  taken_by bytes tries (Part count) now = taken_by_answer bytes tries _ _ (now Closed)
  taken_by bytes tries (Failed failed) now = taken_by_answer bytes tries now.calls (Err failed) now.trace
