-- What a session that is served to its end or its fault asked and wrote.
use Rattle.std.specs.Prelude.{◌≡◌, ◌++◌, ℕ, List, Option, IfSome}
use Rattle.std.specs.Io.KnownBytes.{Appends, Consumes}
use Rattle.stream_base.specs.Lines.{ended_lines, line_feed, Lacks}
use Rattle.relay_admin.specs.declared.admin.end.AdminEnd.TheVariants as ends
use Rattle.relay_admin.specs.admin.Reply.{Exchange, AddsExchanges}
use Rattle.relay_admin.specs.admin.Transcript.{Ending, ended, cut_off, Transcript, IsTranscriptOf}
use Rattle.relay_workers.specs.declared.session.AdminFault.{AdminFault}
use Rattle.relay_workers.specs.declared.session.AdminFault.TheVariants as faults

-- the whole lines of these bytes bring these questions and replies, and none of them ends the
-- session
pub record IsTranscriptOfWholeLines (bytes : List ℕ) (exchanges : List Exchange)
    (replies : List ℕ) : Type 0 where
  pub lines : List (List ℕ)
  pub more : List ℕ
  pub split : bytes ≡ ended_lines lines ++ more
  pub unended : Lacks line_feed more
  pub are : Transcript 1 lines exchanges replies (ended ends.End)

-- what was asked and written meanwhile; where the source tells its text, it is the text's
pub record Serves (remaining : Option (List ℕ)) (asked asked' : Option (List Exchange))
    (contents contents' : Option (List ℕ)) (ending : Ending) : Type 0 where
  pub exchanges : List Exchange
  pub replies : List ℕ
  pub told : AddsExchanges asked asked' exchanges
  pub written : Appends contents contents' replies
  pub are : IfSome remaining (λ text. IsTranscriptOf text exchanges replies ending)

-- what was read, asked and written meanwhile: that of all whole lines that were read
pub record ServesWholeLines (remaining remaining' : Option (List ℕ))
    (asked asked' : Option (List Exchange))
    (contents contents' : Option (List ℕ)) : Type 0 where
  pub bytes : List ℕ
  pub exchanges : List Exchange
  pub replies : List ℕ
  pub consumed : Consumes remaining remaining' bytes
  pub told : AddsExchanges asked asked' exchanges
  pub written : Appends contents contents' replies
  pub are : IsTranscriptOfWholeLines bytes exchanges replies

-- what was asked and written before a fault
abbrev pub ServesBeforeFault : AdminFault → Option (List ℕ) → Option (List ℕ)
    → Option (List Exchange) → Option (List Exchange) → Option (List ℕ) → Option (List ℕ) → Type 0
ServesBeforeFault faults.Read remaining remaining' asked asked' contents contents' =
    ServesWholeLines remaining remaining' asked asked' contents contents'
ServesBeforeFault faults.Write remaining remaining' asked asked' contents contents' =
    Serves remaining asked asked' contents contents' cut_off
