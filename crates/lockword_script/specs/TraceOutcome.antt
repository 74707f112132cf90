-- What a run of a script leaves behind it, and where its faults come from.
use Rattle.std.specs.Prelude.{◌≡◌, ◌++◌, ℕ, Bool, true, List, Option, IfSome}
use Rattle.std.specs.Io.KnownBytes.{Appends, Consumes}
use Rattle.stream_base.specs.Lines.{Lacks, ended_lines, line_feed}
use Rattle.stream_base.specs.Attempt.{FailedOrInterrupted, WriteStopped}
use Rattle.lockword_core.specs.LockState.{empty}
use Rattle.lockword_script.specs.TraceOutput.{Prints, IsTextOf}
use Rattle.lockword_script.specs.declared.outcome.End.{End}
use Rattle.lockword_script.specs.declared.outcome.End.TheVariants.{Whole}
use Rattle.lockword_script.specs.declared.outcome.TraceFault.{TraceFault}
use Rattle.lockword_script.specs.declared.outcome.TraceFault.TheVariants as fault

-- the text of the script begins so
pub record TextBegins (script front : List ℕ) : Type 0 where
  pub text : List ℕ
  pub end : End
  pub is_text : IsTextOf script text end
  pub rest : List ℕ
  pub split : text ≡ front ++ rest

-- the bytes begin with whole lines, all good, whose text is this
pub record IsTextOfFirstLines (bytes text : List ℕ) : Type 0 where
  pub lines : List (List ℕ)
  pub more : List ℕ
  pub split : bytes ≡ ended_lines lines ++ more
  pub prints : Prints 1 empty lines text Whole

-- all whole lines of the bytes are good, and this is their text
pub record IsTextOfWholeLines (bytes text : List ℕ) : Type 0 where
  pub lines : List (List ℕ)
  pub more : List ℕ
  pub split : bytes ≡ ended_lines lines ++ more
  pub unended : Lacks line_feed more
  pub prints : Prints 1 empty lines text Whole

-- what a fault leaves: what was left of the script and what was written, before the run and after
-- it
abbrev pub Leaves : TraceFault → Option (List ℕ) → Option (List ℕ) → Option (List ℕ)
    → Option (List ℕ) → Type 0
Leaves fault.Read left left' written written' =
    (got : List ℕ) × (text : List ℕ) × Consumes left left' got × Appends written written' text
    × IsTextOfWholeLines got text
Leaves fault.OutOfMemory left left' written written' =
    (got : List ℕ) × (text : List ℕ) × Consumes left left' got × Appends written written' text
    × IsTextOfFirstLines got text
Leaves fault.Write left left' written written' =
    (text : List ℕ) × Appends written written' text × IfSome left (λ script. TextBegins script text)

-- a source is as well after a run as before: it failed no more often, and its last read was not
-- interrupted
abbrev pub SourceIsWell : Bool → Bool → ℕ → Type 0
SourceIsWell failed failed' interruptions' = (failed' ≡ failed) × (interruptions' ≡ 0)

-- a sink is as well after a run as before: it failed and took nothing no more often, its last flush
-- was not interrupted, and all is flushed
abbrev pub SinkIsWell : Bool → Bool → ℕ → Bool → Bool → Bool → Type 0
SinkIsWell failed failed' interruptions' took_nothing took_nothing' flushed' =
    (failed' ≡ failed) × (interruptions' ≡ 0) × (took_nothing' ≡ took_nothing) × (flushed' ≡ true)

-- a source after a fault: it failed or was interrupted too often if the fault is `Read`, and else
-- it is well
abbrev pub ExplainsSource : TraceFault → Bool → Bool → ℕ → Type 0
ExplainsSource fault.Read failed failed' interruptions' = FailedOrInterrupted failed' interruptions'
ExplainsSource fault.Write failed failed' interruptions' =
    SourceIsWell failed failed' interruptions'
ExplainsSource fault.OutOfMemory failed failed' interruptions' =
    SourceIsWell failed failed' interruptions'

-- a sink after a fault: it failed, was interrupted too often or took nothing if the fault is
-- `Write`, and else it is well
abbrev pub ExplainsSink : TraceFault → Bool → Bool → ℕ → Bool → Bool → Bool → Type 0
ExplainsSink fault.Read failed failed' interruptions' took_nothing took_nothing' flushed' =
    SinkIsWell failed failed' interruptions' took_nothing took_nothing' flushed'
ExplainsSink fault.Write failed failed' interruptions' took_nothing took_nothing' flushed' =
    WriteStopped failed' interruptions' took_nothing'
ExplainsSink fault.OutOfMemory failed failed' interruptions' took_nothing took_nothing' flushed' =
    SinkIsWell failed failed' interruptions' took_nothing took_nothing' flushed'
