-- What one line brings.
use Rattle.std.proofs.Common.{◌≡◌, ◌≢◌, ◌∙◌, sym, ap, ℕ, ◌≤◌, List, [], ◌∷◌, ◌++◌, length, Option, Some}
use Rattle.std.proofs.Common.{None, append-nil, append_assoc, arith, subst}
use Rattle.relay_admin.specs.declared.admin.command.Command.{Command}
use Rattle.relay_admin.specs.declared.admin.dialogue.TheConstants.{MAX_LINE_BYTES}
use Rattle.relay_admin.specs.declared.admin.end.AdminEnd.{AdminEnd}
use Rattle.relay_admin.specs.declared.admin.end.AdminEnd.TheVariants as ends
use Rattle.relay_admin.specs.admin.Command.{SpellsCommand, end_of}
use Rattle.relay_admin.specs.admin.Listing.{AnswerComesTo, Comes, Said, ids_to_show, whole}
use Rattle.relay_admin.specs.admin.Reply.{Answer, fine, reply_text, Exchange, asked_for, AddsExchanges, Exchanges}
use Rattle.relay_admin.specs.admin.Reply.{HasAskedId}
use Rattle.relay_admin.specs.admin.Transcript.{LineTranscript, too_long, no_command, finishes, asks}
use Rattle.relay_admin.specs.admin.Progress.{AnswersLine}

pub adds_none : (exchanges : Option (List Exchange)) → AddsExchanges exchanges exchanges []
adds_none None = tt
adds_none (Some told) = sym (append-nil told)

pub adds_then : (a b c : Option (List Exchange)) (xs ys : List Exchange) → AddsExchanges a b xs → AddsExchanges b c ys
    → AddsExchanges a c (xs ++ ys)
adds_then a b None xs ys h k = tt
adds_then a None (Some z) xs ys h k = absurd k
adds_then None (Some y) (Some z) xs ys h k = absurd h
adds_then (Some x) (Some y) (Some z) xs ys h k = k ∙ ap (λ (told : List Exchange). told ++ ys) h ∙ append_assoc x xs ys

-- what holds of a whole text and of no look holds of all that this reply comes to
pub of_whole : (P : List Exchange → List ℕ → Type 0) (reply : List ℕ) → P [] reply
    → (looks : List Exchange) (text : List ℕ) → Comes (whole reply) looks text → P looks text
of_whole P reply holds looks text comes =
    subst (λ (t : List ℕ). P looks t) (sym comes.1) (subst (λ (m : List Exchange). P m reply) (sym comes.0) holds)

-- a line for which nothing is asked
pub unasked : (asked : Option (List Exchange)) (line reply : List ℕ) (end : Option AdminEnd)
    → LineTranscript line [] reply end → AnswersLine asked asked line (whole reply) end
unasked asked line reply end are = record {
  exchanges = [];
  told = adds_none asked;
  are = of_whole (λ looks text. LineTranscript line looks text end) reply are;
}

pub last_line_of : (asked : Option (List Exchange)) (line : List ℕ) (c : Command) (end : AdminEnd)
    → length line ≤ MAX_LINE_BYTES → SpellsCommand line c → end_of c ≡ Some end
    → AnswersLine asked asked line (whole (reply_text fine)) (Some end)
last_line_of asked line c end short spells is =
    unasked asked line (reply_text fine) (Some end) (finishes line c end short spells is)

pub asked_line : (asked asked' : Option (List Exchange)) (line : List ℕ) (c : Command) (answer : Answer)
    (said : Said) → length line ≤ MAX_LINE_BYTES → SpellsCommand line c → end_of c ≡ None
    → Exchanges asked asked' c answer → HasAskedId c answer
    → ((looks : List Exchange) (text : List ℕ) → Comes said looks text
    → AnswerComesTo (ids_to_show c answer) answer looks text)
    → AnswersLine asked asked' line said None
asked_line asked asked' line c answer said short spells unended told same is =
    record {
      exchanges = asked_for c answer ∷ [];
      told = told;
      are = λ looks text comes. asks line c answer looks text short spells unended same (is looks text comes);
    }

-- no command ends the session as its source's end does
no_command_is_end : (c : Command) → end_of c ≡ Some ends.End → ⊥
no_command_is_end c e = grind arith

-- no line ends the session as its source's end does
pub not_end : (line : List ℕ) (exchanges : List Exchange) (reply : List ℕ) (end : AdminEnd)
    → LineTranscript line exchanges reply (Some end) → end ≢ ends.End
not_end line exchanges reply end h e = no_end line exchanges reply (Some end) h (ap (λ (x : AdminEnd). Some x) e)
  where
    no_end : (line : List ℕ) (exchanges : List Exchange) (reply : List ℕ) (end : Option AdminEnd)
        → LineTranscript line exchanges reply end → end ≡ Some ends.End → ⊥
    no_end _ _ _ _ (too_long line long) e = absurd (cc)
    no_end _ _ _ _ (no_command line short other) e = absurd (cc)
    no_end _ _ _ _ (finishes line c end short spells is) e = no_command_is_end c (is ∙ e)
    no_end _ _ _ _ (asks line c answer looks reply short spells unended same is) e = absurd (cc)
