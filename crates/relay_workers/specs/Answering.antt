-- What bytes do to a session whose replies are written at once.
use Rattle.std.specs.Prelude.{◌≡◌, ◌≢◌, ◌≤◌, ◌<◌, ◌+◌, ◌*◌, ◌∷◌, ◌++◌, ℕ, Bool, List, [], length, take}
use Rattle.std.specs.Prelude.{Option, None, Result, Ok, Err}
use Rattle.std.specs.Io.KnownBytes.{Appends}
use Rattle.stream_base.specs.Attempt.{WriteStopped}
use Rattle.stream_base.specs.Lines.{lines_of}
use Rattle.relay_admin.specs.declared.admin.end.AdminEnd.{AdminEnd}
use Rattle.relay_admin.specs.declared.admin.end.AdminEnd.TheVariants as ends
use Rattle.relay_admin.specs.declared.admin.dialogue.TheConstants.{MAX_LINES, MAX_LINE_BYTES}
use Rattle.relay_admin.specs.admin.Listing.{Said, Comes}
use Rattle.relay_admin.specs.admin.Progress.{Position, IsReady, Advances, Closes}
use Rattle.relay_admin.specs.admin.Reply.{Exchange, AddsExchanges, questions_of}
use Rattle.relay_admin.specs.admin.Transcript.{LineTranscript, ended, cut_off, Transcript}
use Rattle.relay_workers.specs.declared.answering.Step.{Step}
use Rattle.relay_workers.specs.declared.answering.Step.TheVariants as step
use Rattle.relay_workers.specs.Devices.{IsFlushedOrUntouched}

-- a reply was written, after the looks that it comes of
pub record Delivers (said : Said) (asked asked' : Option (List Exchange))
    (contents contents' : Option (List ℕ)) : Type 0 where
  pub looks : List Exchange
  pub text : List ℕ
  pub comes : Comes said looks text
  pub told : AddsExchanges asked asked' looks
  pub written : Appends contents contents' text

-- a front of a reply was written, after the looks that this comes of; the others are missing
pub record DeliversFront (said : Said) (asked asked' : Option (List Exchange))
    (contents contents' : Option (List ℕ)) : Type 0 where
  pub looks : List Exchange
  pub missing : List Exchange
  pub text : List ℕ
  pub count : ℕ
  pub unasked : questions_of missing ≡ []
  pub comes : Comes said (looks ++ missing) text
  pub told : AddsExchanges asked asked' looks
  pub written : Appends contents contents' (take count text)

-- rises by one with each byte at least
abbrev pub progress_of : Position → ℕ
progress_of at = (MAX_LINE_BYTES + 1) * at.number + length at.kept

-- what was asked and written meanwhile is so
pub record Meanwhile (asked asked' : Option (List Exchange)) (contents contents' : Option (List ℕ))
    (P : List Exchange → List ℕ → Type 0) : Type 0 where
  pub exchanges : List Exchange
  pub replies : List ℕ
  pub told : AddsExchanges asked asked' exchanges
  pub written : Appends contents contents' replies
  pub holds : P exchanges replies

-- what bytes came to
abbrev pub LinesComeTo : Step → Position → Position → List ℕ
    → Option (List Exchange) → Option (List Exchange) → Option (List ℕ) → Option (List ℕ) → Type 0
LinesComeTo step.GoesOn old new bytes asked asked' contents contents' =
    IsReady new × (progress_of old + length bytes ≤ progress_of new)
    × Meanwhile asked asked' contents contents'
    (λ exchanges replies. Advances old new bytes exchanges replies)
LinesComeTo (step.Ended end) old new bytes asked asked' contents contents' =
    (end ≢ ends.End) × Meanwhile asked asked' contents contents'
    (λ exchanges replies. Closes old bytes exchanges replies (ended end))
LinesComeTo step.CutOff old new bytes asked asked' contents contents' =
    Meanwhile asked asked' contents contents'
    (λ exchanges replies. Closes old bytes exchanges replies cut_off)

-- what a whole line came to
abbrev pub LineComesTo : Step → Position → Position
    → Option (List Exchange) → Option (List Exchange) → Option (List ℕ) → Option (List ℕ) → Type 0
LineComesTo step.GoesOn old new asked asked' contents contents' =
    (old.number < MAX_LINES) × (new ≡ record { number = old.number + 1; kept = [] })
    × Meanwhile asked asked' contents contents'
    (λ exchanges replies. LineTranscript old.kept exchanges replies None)
LineComesTo (step.Ended end) old new asked asked' contents contents' =
    (end ≢ ends.End) × Meanwhile asked asked' contents contents'
    (λ exchanges replies. (lines : List (List ℕ))
    → Transcript old.number (old.kept ∷ lines) exchanges replies (ended end))
LineComesTo step.CutOff old new asked asked' contents contents' =
    Meanwhile asked asked' contents contents'
    (λ exchanges replies. (lines : List (List ℕ))
    → Transcript old.number (old.kept ∷ lines) exchanges replies cut_off)

-- what the end of the bytes came to
abbrev pub EndComesTo : {E : Type 0} → Result AdminEnd E → Position
    → Option (List Exchange) → Option (List Exchange) → Option (List ℕ) → Option (List ℕ) → Type 0
EndComesTo (Ok end) old asked asked' contents contents' =
    Meanwhile asked asked' contents contents'
    (λ exchanges replies. Transcript old.number (lines_of old.kept) exchanges replies (ended end))
EndComesTo (Err fault) old asked asked' contents contents' =
    Meanwhile asked asked' contents contents'
    (λ exchanges replies. Transcript old.number (lines_of old.kept) exchanges replies cut_off)

-- how the sink stands after bytes
abbrev pub SinkAfter : Step → Option (List ℕ) → Option (List ℕ)
    → Bool → Bool → Bool → ℕ → Bool → Type 0
SinkAfter step.CutOff contents contents' flushed flushed' failed interruptions took_nothing =
    WriteStopped failed interruptions took_nothing
SinkAfter _ contents contents' flushed flushed' failed interruptions took_nothing =
    (interruptions ≡ 0) × IsFlushedOrUntouched contents contents' flushed flushed'
