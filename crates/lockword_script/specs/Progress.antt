-- How far the run of a script has come, and what bytes do to it. No public clause cites this
-- module.
use Rattle.std.specs.Prelude.{◌≡◌, ◌≤◌, ◌+◌, ◌*◌, ℕ, List, [], ◌++◌, length}
use Rattle.stream_base.specs.Lines.{EndsLines, Lacks, line_feed, lines_of}
use Rattle.lockword_core.specs.LockState.{LockState, empty}
use Rattle.lockword_script.specs.TraceOutput.{Prints}
use Rattle.lockword_script.specs.declared.script.TheConstants.{MAX_LINES, MAX_LINE_BYTES}
use Rattle.lockword_script.specs.declared.outcome.End.{End}
use Rattle.lockword_script.specs.declared.outcome.End.TheVariants.{Whole, BadLine}
use Rattle.lockword_script.specs.declared.script_run.ScriptRun.{ScriptRun}

-- the number of the line that is read, the state that it will meet, and the bytes of it that have
-- come
pub record Progress : Type 0 where
  pub number : ℕ
  pub state : LockState
  pub partial : List ℕ

-- how far a run has come
abbrev pub progress_of : ScriptRun → Progress
progress_of run = record { number = run.number; state = run.machine; partial = run.lines.held }

-- the bytes that were read and not yet looked at
abbrev pub ahead_of : ScriptRun → List ℕ
ahead_of run = run.lines.ahead

-- before the first byte
abbrev pub start : Progress
start = record { number = 1; state = empty; partial = [] }

-- the line isn't ended, isn't too long, and isn't later than the first one too many
pub record IsReady (p : Progress) : Type 0 where
  pub numbered : p.number ≤ MAX_LINES + 1
  pub short : length p.partial ≤ MAX_LINE_BYTES
  pub unended : Lacks line_feed p.partial

-- rises with each byte
abbrev pub spent : Progress → ℕ
spent p = (MAX_LINE_BYTES + 1) * p.number + length p.partial

-- the bytes end some front lines, which print this text, and lead on to the new progress, whatever
-- follows
pub record Advances (old new : Progress) (bytes printed : List ℕ) : Type 0 where
  pub front : List (List ℕ)
  pub ends : EndsLines old.partial bytes front new.partial
  pub carry : (more : List (List ℕ)) (text : List ℕ) (end : End)
      → Prints new.number new.state more text end
      → Prints old.number old.state (front ++ more) (printed ++ text) end

-- the bytes lead to the bad line of this number, whatever follows
abbrev pub StopsAt : Progress → List ℕ → List ℕ → ℕ → Type 0
StopsAt old bytes printed number =
    (rest : List ℕ) → Prints old.number old.state (lines_of (old.partial ++ (bytes ++ rest)))
    printed (BadLine number)

-- a front of the bytes was carried out, and printed this text
pub record AdvancesPartly (old : Progress) (bytes printed : List ℕ) : Type 0 where
  pub new : Progress
  pub done : List ℕ
  pub left : List ℕ
  pub split : bytes ≡ done ++ left
  pub advances : Advances old new done printed

-- the bytes lead on, and what they print was put behind the output
pub record LeadsOn (old new : Progress) (bytes before after : List ℕ) : Type 0 where
  pub printed : List ℕ
  pub put : after ≡ before ++ printed
  pub advances : Advances old new bytes printed

-- the bytes lead to a bad line, and what they print was put behind the output
pub record LeadsToBadLine (old : Progress) (bytes before after : List ℕ) (number : ℕ) : Type 0 where
  pub printed : List ℕ
  pub put : after ≡ before ++ printed
  pub stops : StopsAt old bytes printed number

-- a front of the bytes leads on, and what it prints was put behind the output
pub record LeadsPartly (old : Progress) (bytes before after : List ℕ) : Type 0 where
  pub printed : List ℕ
  pub put : after ≡ before ++ printed
  pub advances : AdvancesPartly old bytes printed

-- the bytes lead to the end of the script, and what they print was put behind the output: no byte
-- is left, or a line is bad
pub record LeadsToEnd (old : Progress) (bytes before after : List ℕ) (end : End) : Type 0 where
  pub printed : List ℕ
  pub put : after ≡ before ++ printed
  pub prints : (rest : List ℕ) → (bytes ≡ [] → rest ≡ [])
      → Prints old.number old.state (lines_of (old.partial ++ (bytes ++ rest))) printed end
  pub whole : end ≡ Whole → bytes ≡ []
