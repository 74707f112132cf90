-- Bytes after bytes of a session, and what they bring.
use Rattle.std.specs.Prelude.{◌≡◌, ◌+◌, ◌<◌, ◌∷◌, ◌++◌}
use Rattle.relay_admin.proofs.Words.{◌∙◌, sym, ap, subst, ℕ, List, [], length, None, arith, append_assoc, append-nil}
use Rattle.relay_admin.proofs.Words.{EndsLines, Lacks, line_feed, lines_of, HasLongFirstLine, ends_none}
use Rattle.relay_admin.proofs.Words.{lines_of-empty, lines_of-last_line, MAX_LINES, MAX_LINE_BYTES, Exchange, bad_command}
use Rattle.relay_admin.proofs.Words.{LineTranscript, too_long, Ending, ended, Transcript, no_line, last_line, line_then}
use Rattle.relay_admin.proofs.Words.{Position, IsReady, Advances, Closes}
use Rattle.relay_admin.specs.declared.admin.end.AdminEnd.TheVariants as ends

-- ---- Positions

pub advances_none : (at : Position) → Advances at at [] [] []
advances_none at = record { lines = []; ends = ends_none at.kept; carry = λ rest more text ending h. h }

-- bytes that end a line
pub advances_line : (number : ℕ) (kept line bytes : List ℕ) (new : Position) (exchanges : List Exchange)
    (reply : List ℕ)
    → EndsLines kept bytes (line ∷ []) [] → number < MAX_LINES → new ≡ record { number = number + 1; kept = [] }
    → LineTranscript line exchanges reply None → Advances (record { number = number; kept = kept }) new bytes exchanges
    reply
advances_line number kept line bytes new exchanges reply ends few e are =
    subst (λ (p : Position). Advances (record { number = number; kept = kept }) p bytes exchanges reply) (sym e)
    (record { lines = line ∷ []; ends = ends; carry = λ rest more text ending h. line_then few are h })

pub closes_after : (a b : Position) (x y z : List ℕ) (m n : List Exchange) (p q : List ℕ) (ending : Ending)
    → Advances a b x m p → Closes b y n q ending → Closes a (x ++ (y ++ z)) (m ++ n) (p ++ q) ending
closes_after a b x y z m n p q ending g s rest =
    let cut : lines_of (a.kept ++ ((x ++ (y ++ z)) ++ rest)) ≡ g.lines ++ lines_of (b.kept ++ (y ++ (z ++ rest))) =
    ap (λ (t : List ℕ). lines_of (a.kept ++ t)) (append_assoc x (y ++ z) rest
    ∙ ap (λ (t : List ℕ). x ++ t) (append_assoc y z rest)) ∙ g.ends.cut (y ++ (z ++ rest)) in
    subst (λ (ls : List (List ℕ)). Transcript a.number ls (m ++ n) (p ++ q) ending) (sym cut)
    (g.carry (lines_of (b.kept ++ (y ++ (z ++ rest)))) n q ending (s (z ++ rest)))

-- bytes that end a line, where the line closes the session
pub closes_line : (number : ℕ) (kept line bytes : List ℕ) (exchanges : List Exchange) (replies : List ℕ)
    (ending : Ending)
    → EndsLines kept bytes (line ∷ []) [] → ((lines : List (List ℕ))
    → Transcript number (line ∷ lines) exchanges replies ending)
    → Closes (record { number = number; kept = kept }) bytes exchanges replies ending
closes_line number kept line bytes exchanges replies ending ends are rest =
    subst (λ (ls : List (List ℕ)). Transcript number ls exchanges replies ending) (sym (ends.cut rest))
    (are (lines_of rest))

-- bytes by which a line is too long, whatever follows
abbrev pub AreTooLong : List ℕ → List ℕ → Type 0
AreTooLong kept bytes = (more : List ℕ) → HasLongFirstLine MAX_LINE_BYTES (kept ++ (bytes ++ more))

pub closes_long : (number : ℕ) (kept bytes : List ℕ) → AreTooLong kept bytes
    → Closes (record { number = number; kept = kept }) bytes [] bad_command (ended ends.TooLong)
closes_long number kept bytes long rest =
    let first = long rest in
    subst (λ (ls : List (List ℕ)). Transcript number ls [] bad_command (ended ends.TooLong)) (sym first.are)
    (last_line (too_long first.line first.long))

-- ---- A last line that lacks its line feed

pub last_line_closes : (number : ℕ) (kept : List ℕ) (exchanges : List Exchange) (replies : List ℕ) (ending : Ending)
    → Lacks line_feed kept → 0 < length kept → ((lines : List (List ℕ))
    → Transcript number (kept ∷ lines) exchanges replies ending)
    → Transcript number (lines_of kept) exchanges replies ending
last_line_closes number kept exchanges replies ending lacks some are =
    subst (λ (ls : List (List ℕ)). Transcript number ls exchanges replies ending)
    (sym (lines_of-last_line kept lacks some)) (are [])

pub last_line_ends : (number : ℕ) (kept : List ℕ) (exchanges : List Exchange) (reply : List ℕ) → Lacks line_feed kept
    → 0 < length kept → number < MAX_LINES → LineTranscript kept exchanges reply None
    → Transcript number (lines_of kept) exchanges reply (ended ends.End)
last_line_ends number kept exchanges reply lacks some few are =
    subst (λ (t : List ℕ). Transcript number (lines_of kept) exchanges t (ended ends.End)) (append-nil reply)
    (subst (λ (m : List Exchange). Transcript number (lines_of kept) m (reply ++ []) (ended ends.End))
    (append-nil exchanges)
    (subst (λ (ls : List (List ℕ)). Transcript number ls (exchanges ++ []) (reply ++ []) (ended ends.End))
    (sym (lines_of-last_line kept lacks some)) (line_then few are no_line)))

pub no_last_line : (number : ℕ) (kept : List ℕ) → length kept ≡ 0
    → Transcript number (lines_of kept) [] [] (ended ends.End)
no_last_line number kept none =
    subst (λ (ls : List (List ℕ)). Transcript number ls [] [] (ended ends.End)) (sym (lines_of-empty kept none)) no_line

-- a line that is found, and the one after it
pub ready_next : (number : ℕ) (new : Position) → number < MAX_LINES → new ≡ record { number = number + 1; kept = [] }
    → IsReady new
ready_next number new few e =
    subst IsReady (sym e) (record { numbered = omega arith; short = omega arith; unended = tt })
