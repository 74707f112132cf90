-- The reply to one line, and what it is to a session whose caller writes it.
use Rattle.std.specs.Prelude.{◌≡◌, ◌≢◌, ◌<◌, ◌∷◌, ◌++◌, unwrap_or}
use Rattle.relay_admin.proofs.Words.{◌∙◌, sym, ap, subst, ℕ, List, [], inl, inr}
use Rattle.relay_admin.proofs.Words.{length, Option, Some, None}
use Rattle.relay_admin.proofs.Words.{EndsLines, Reading, Lacks, line_feed, LineEnds}
use Rattle.relay_admin.specs.admin.Later.{GoesBehind}
use Rattle.relay_admin.proofs.Words.{AdminEnd, Exchange, bad_command}
use Rattle.relay_admin.proofs.Words.{ended, Transcript, last_line, line_limit}
use Rattle.relay_admin.proofs.Words.{Position, IsReady, AnswersLine, Closes}
use Rattle.relay_admin.specs.declared.admin.dialogue.Dialogue.{Dialogue}
use Rattle.relay_admin.specs.declared.admin.end.AdminEnd.TheVariants as ends
use Rattle.relay_admin.specs.admin.Listing.{Comes, Said, whole}
use Rattle.relay_admin.specs.admin.Progress.{Asks, LastComesTo, NextComesTo, ReplyComesTo, ahead_of, position}
use Rattle.relay_admin.proofs.LineTranscripts.{adds_none, not_end, of_whole}
use Rattle.relay_admin.proofs.Listings.{some_comes}
use Rattle.relay_admin.proofs.SessionLemmas.{AreTooLong, advances_line, advances_none}
use Rattle.relay_admin.proofs.SessionLemmas.{closes_after, closes_line, closes_long, last_line_closes, last_line_ends}
use Rattle.relay_admin.proofs.SessionLemmas.{ready_next}

-- ---- The reply to a line, and where the session goes by it

pub reply_comes : (end result : Option AdminEnd) (old new : Position) (k0 k1 : Option (List Exchange)) (said : Said)
    → AnswersLine k0 k1 old.kept said end → GoesBehind end result old new → ReplyComesTo result old new k0 k1 said
reply_comes (Some end) result old new k0 k1 said are goes =
    subst (λ (r : Option AdminEnd). ReplyComesTo r old new k0 k1 said) (sym goes.0) (goes.1, inl are)
reply_comes None None old new k0 k1 said are goes = (goes.0, goes.1, are)
reply_comes None (Some end) old new k0 k1 said are goes = (goes.2, inr (goes.0, goes.1, are))

-- ---- The caller writes the reply

-- these bytes end a line
pub record EndsLine (old found : Reading) : Type 0 where
  pub bytes : List ℕ
  pub some : 0 < length bytes
  pub cut : old.ahead ≡ bytes ++ found.ahead
  pub ends : EndsLines old.held bytes (found.held ∷ []) []

pub ends_line_of : (old found : Reading) → LineEnds old found → EndsLine old found
ends_line_of old found l = record { bytes = l.bytes; some = l.some; cut = l.cut; ends = l.ends }

pub ready_after : (end : Option AdminEnd) (old new : Position) (k0 k1 : Option (List Exchange)) (said : Said)
    → IsReady old → ReplyComesTo end old new k0 k1 said → IsReady new
ready_after None old new k0 k1 said ready d = ready_next old.number new d.0 d.1
ready_after (Some end) old new k0 k1 said ready d = subst IsReady (sym d.0) ready

-- a line closes the session, whatever follows the bytes that end it
closes_by : (number : ℕ) (old found : Reading) (exchanges : List Exchange) (reply : List ℕ) (end : AdminEnd)
    → EndsLine old found
    → ((lines : List (List ℕ)) → Transcript number (found.held ∷ lines) exchanges reply (ended end))
    → Closes (record { number = number; kept = old.held }) old.ahead exchanges reply (ended end)
closes_by number old found exchanges reply end l are =
    let at : Position = record { number = number; kept = old.held } in
    subst (λ (t : List ℕ). Closes at t exchanges reply (ended end)) (sym l.cut)
    (closes_after at at [] l.bytes found.ahead [] exchanges [] reply (ended end) (advances_none at)
    (closes_line number old.held found.held l.bytes exchanges reply (ended end) l.ends are))

pub next_comes : (end : Option AdminEnd) (number : ℕ) (old found : Reading) (new : Dialogue)
    (k0 k1 : Option (List Exchange)) (said : Said) → EndsLine old found → ahead_of new ≡ found.ahead
    → ReplyComesTo end (record { number = number; kept = found.held }) (position new) k0 k1 said
    → NextComesTo (Some (said, end)) (record { number = number; lines = old }) new k0 k1
next_comes None number old found new k0 k1 said l same d = record {
  bytes = l.bytes;
  some = l.some;
  cut = l.cut ∙ ap (λ (t : List ℕ). l.bytes ++ t) (sym same);
  brings = record {
    exchanges = d.2.exchanges;
    told = d.2.told;
    holds = λ looks text comes.
        advances_line number old.held found.held l.bytes (position new) (d.2.exchanges ++ looks) text l.ends d.0 d.1
        (d.2.are looks text comes);
  };
}
next_comes (Some end) number old found new k0 k1 said l same (_, inl are) =
    let any = some_comes said in (
      not_end found.held (are.exchanges ++ any.0) any.1 end (are.are any.0 any.1 any.2),
      record {
        exchanges = are.exchanges;
        told = are.told;
        holds = λ looks text comes. closes_by number old found (are.exchanges ++ looks) text end l
            (λ lines. last_line (are.are looks text comes));
      },
    )
next_comes (Some end) number old found new k0 k1 said l same (_, inr last) =
    let are : AnswersLine k0 k1 found.held said None = last.2 in
    subst (λ (x : AdminEnd). (x ≢ ends.End) × Asks k0 k1 (λ exchanges. (looks : List Exchange) (text : List ℕ)
    → Comes said looks text → Closes (record { number = number; kept = old.held }) old.ahead (exchanges ++ looks) text
    (ended x))) (sym last.1) (
      λ e. absurd (cc),
      record {
        exchanges = are.exchanges;
        told = are.told;
        holds = λ looks text comes.
            closes_by number old found (are.exchanges ++ looks) text ends.TooManyLines l
            (λ lines. subst (λ (n : ℕ). Transcript n (found.held ∷ lines) (are.exchanges ++ looks) text
            (ended ends.TooManyLines)) (sym last.0) (line_limit (are.are looks text comes)));
      },
    )

pub long_comes : (number : ℕ) (old : Reading) (new : Dialogue) (asked : Option (List Exchange))
    → AreTooLong old.held old.ahead
    → NextComesTo (Some (whole bad_command, Some ends.TooLong)) (record { number = number; lines = old }) new asked
    asked
long_comes number old new asked long = (
  λ e. absurd (cc),
  record {
    exchanges = [];
    told = adds_none asked;
    holds = of_whole (λ looks text. Closes (record { number = number; kept = old.held }) old.ahead looks text
        (ended ends.TooLong)) bad_command (closes_long number old.held old.ahead long);
  },
)

-- ---- A last line that lacks its line feed

pub last_comes : (end : Option AdminEnd) (number : ℕ) (kept : List ℕ) (new : Position) (k0 k1 : Option (List Exchange))
    (said : Said) → Lacks line_feed kept → 0 < length kept
    → ReplyComesTo end (record { number = number; kept = kept }) new k0 k1 said
    → LastComesTo (Some (said, unwrap_or end ends.End)) (record { number = number; kept = kept }) k0 k1
last_comes None number kept new k0 k1 said lacks some d = record {
  exchanges = d.2.exchanges;
  told = d.2.told;
  holds = λ looks text comes. last_line_ends number kept (d.2.exchanges ++ looks) text lacks some d.0
      (d.2.are looks text comes);
}
last_comes (Some end) number kept new k0 k1 said lacks some (_, inl are) = record {
  exchanges = are.exchanges;
  told = are.told;
  holds = λ looks text comes.
      last_line_closes number kept (are.exchanges ++ looks) text (ended end) lacks some
      (λ lines. last_line (are.are looks text comes));
}
last_comes (Some end) number kept new k0 k1 said lacks some (_, inr last) =
    let are : AnswersLine k0 k1 kept said None = last.2 in
    record {
      exchanges = are.exchanges;
      told = are.told;
      holds = λ looks text comes.
          last_line_closes number kept (are.exchanges ++ looks) text (ended end) lacks some
          (λ lines. subst (λ (x : AdminEnd). Transcript number (kept ∷ lines) (are.exchanges ++ looks) text (ended x))
          (sym last.1)
          (subst (λ (n : ℕ). Transcript n (kept ∷ lines) (are.exchanges ++ looks) text (ended ends.TooManyLines))
          (sym last.0) (line_limit (are.are looks text comes))));
    }
