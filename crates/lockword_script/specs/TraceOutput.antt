-- The text that a script prints, as a relation on whole texts.
use Rattle.std.specs.Prelude.{◌≤◌, ◌<◌, ◌+◌, ◌-◌, ◌∷◌, ◌++◌, ◌⊎◌}
use Rattle.lockword_script.specs.Words.{ℕ, List, [], Option}
use Rattle.lockword_script.specs.Words.{Some, None, codes, decimal, w64, to_be_bytes, encode_lower}
use Rattle.lockword_script.specs.Words.{lines_of, Read, Write, Op, Answer, signals_in, LockState}
use Rattle.lockword_script.specs.Words.{empty, census, encoded, transition, state_after}
use Rattle.lockword_core.specs.declared.stake.Answer.TheVariants as answer
use Rattle.lockword_script.specs.Script.{Says, IsBadLine, events_of}
use Rattle.lockword_script.specs.declared.script.TheConstants.{MAX_LINES}
use Rattle.lockword_script.specs.declared.outcome.End.{End}
use Rattle.lockword_script.specs.declared.outcome.End.TheVariants.{Whole, BadLine}

-- an answer's name
abbrev pub answer_name : Answer → List ℕ
answer_name answer.Held = codes "held"
answer_name answer.Queued = codes "queued"
answer_name answer.Kept = codes "kept"
answer_name answer.Owes = codes "owes"
answer_name answer.Last = codes "last"
answer_name answer.Signalled = codes "signalled"
answer_name answer.Woken = codes "woken"
answer_name answer.Closing = codes "closing"
answer_name answer.Drained = codes "drained"
answer_name answer.Done = codes "done"
answer_name answer.Misuse = codes "misuse"
answer_name answer.Closed = codes "closed"
answer_name answer.TooMany = codes "toomany"
answer_name answer.Full = codes "full"
answer_name answer.NotYet = codes "notyet"
answer_name answer.Draining = codes "draining"

-- a word in sixteen hexadecimal digits, two for each of its eight bytes, the highest byte first
abbrev pub word_text : ℕ → List ℕ
word_text word = encode_lower (to_be_bytes w64 word)

-- who destroyed, or a dash
abbrev pub destroyer_text : Option ℕ → List ℕ
destroyer_text None = codes "-"
destroyer_text (Some holder) = decimal holder

-- the printed line of an answer, a word, the signals of readers and of writers, and who destroyed
abbrev pub printed_line : Answer → ℕ → ℕ → ℕ → Option ℕ → List ℕ
printed_line given word reading writing destroyed_by =
    answer_name given ++ (codes " " ++ (word_text word
    ++ (codes " " ++ (decimal reading ++
    (codes " " ++ (decimal writing ++ (codes " "
    ++ (destroyer_text destroyed_by ++ codes "\n"))))))))

-- the printed line of one event: its answer, and the state after it
abbrev pub printed_of_event : LockState → ℕ → Op → List ℕ
printed_of_event state holder asked =
    let next = transition state holder asked in
    printed_line next.1 (encoded (census next.0)) (signals_in Read next.0.signals)
    (signals_in Write next.0.signals) next.0.destroyed_by

-- the one printed line of so many events in turn: that of the last of them
unfoldable pub printed_of_events : LockState → ℕ → ℕ → Op → List ℕ
printed_of_events state first count asked =
    printed_of_event (state_after state (events_of first (count - 1) asked))
    (first + (count - 1)) asked

-- what is printed for a bad line
unfoldable pub printed_of_bad_line : ℕ → List ℕ
printed_of_bad_line number = codes "bad line " ++ (decimal number ++ codes "\n")

-- the lines, of which the first has this number and meets this state, print this text and end so
pub data Prints : ℕ → LockState → List (List ℕ) → List ℕ → End → Type 0 where
  -- no line is left
  whole : {number : ℕ} {state : LockState} → Prints number state [] [] Whole
  -- the first line is good: its events are carried out, and the other lines follow
  good : {number : ℕ} {state : LockState} {line : List ℕ} {lines : List (List ℕ)} {end : End}
      (first count : ℕ) (asked : Op) (text : List ℕ)
      → number ≤ MAX_LINES → Says line first count asked
      → Prints (number + 1) (state_after state (events_of first count asked)) lines text end
      → Prints number state (line ∷ lines) (printed_of_events state first count asked ++ text) end
  -- the first line is one too many, or bad: it ends the text
  bad : {number : ℕ} {state : LockState} {line : List ℕ} {lines : List (List ℕ)}
      → (MAX_LINES < number) ⊎ IsBadLine line
      → Prints number state (line ∷ lines) (printed_of_bad_line number) (BadLine number)

-- the script prints this text and ends so
abbrev pub IsTextOf : List ℕ → List ℕ → End → Type 0
IsTextOf script text end = Prints 1 empty (lines_of script) text end
