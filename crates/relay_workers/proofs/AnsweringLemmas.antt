-- What bytes of a session bring whose replies are written at once.
use Rattle.std.specs.Prelude.{◌≡◌, ◌≢◌, ◌+◌, ◌*◌, ◌≤◌, ◌<◌, ◌∷◌, ◌++◌}
use Rattle.relay_admin.proofs.Words.{◌∙◌, sym, ap, refl, subst, ℕ, List, [], inl, inr}
use Rattle.relay_admin.proofs.Words.{length, take, Option, Some, None, arith, append_assoc, length-append}
use Rattle.relay_admin.proofs.Words.{append-nil, Appends, AppendsFront, Reading}
use Rattle.relay_admin.proofs.Words.{EndsLines, Lacks, line_feed, lines_of, ends_then}
use Rattle.relay_admin.proofs.Words.{LineEnds, LineGrows, appends_nothing}
use Rattle.relay_admin.proofs.Words.{appends_then_appends, Exchange, bad_command}
use Rattle.relay_admin.specs.declared.admin.dialogue.TheConstants.{MAX_LINES, MAX_LINE_BYTES}
use Rattle.relay_admin.specs.declared.admin.end.AdminEnd.{AdminEnd}
use Rattle.relay_admin.proofs.Words.{LineTranscript, too_long, Ending, ended, cut_off, Transcript, last_line}
use Rattle.relay_admin.proofs.Words.{line_limit, cut_line, Position, AnswersLine, Advances, Closes}
use Rattle.relay_admin.specs.declared.admin.end.AdminEnd.TheVariants as ends
use Rattle.relay_admin.specs.admin.Listing.{Said}
use Rattle.relay_admin.specs.admin.Progress.{ReplyComesTo}
use Rattle.relay_admin.proofs.LineTranscripts.{adds_none, adds_then, not_end}
use Rattle.relay_admin.proofs.SessionLemmas.{AreTooLong, advances_line, advances_none, closes_after, closes_line}
use Rattle.relay_admin.proofs.SessionLemmas.{closes_long, last_line_closes, last_line_ends}
use Rattle.relay_workers.specs.declared.answering.Step.TheVariants as step
use Rattle.relay_workers.specs.Answering.{Delivers, DeliversFront, LineComesTo, Meanwhile, progress_of}

-- ---- Positions

-- bytes of a line that isn't ended
pub advances_part : (number : ℕ) (kept kept' bytes : List ℕ) → EndsLines kept bytes [] kept'
    → Advances (record { number = number; kept = kept }) (record { number = number; kept = kept' }) bytes [] []
advances_part number kept kept' bytes ends = record { lines = []; ends = ends; carry = λ rest more text ending h. h }

pub advances_then : (a b c : Position) (x y : List ℕ) (m n : List Exchange) (p q : List ℕ) → Advances a b x m p
    → Advances b c y n q → Advances a c (x ++ y) (m ++ n) (p ++ q)
advances_then a b c x y m n p q g h = record {
  lines = g.lines ++ h.lines;
  ends = ends_then a.kept b.kept c.kept x y g.lines h.lines g.ends h.ends;
  carry = λ rest more text ending are.
      subst (λ (k : List Exchange). Transcript a.number ((g.lines ++ h.lines) ++ rest) k ((p ++ q) ++ text) ending)
      (sym (append_assoc m n more))
      (subst (λ (t : List ℕ). Transcript a.number ((g.lines ++ h.lines) ++ rest) (m ++ (n ++ more)) t ending)
      (sym (append_assoc p q text))
      (subst (λ (ls : List (List ℕ)). Transcript a.number ls (m ++ (n ++ more)) (p ++ (q ++ text)) ending)
      (sym (append_assoc g.lines h.lines rest))
      (g.carry (h.lines ++ rest) (n ++ more) (q ++ text) ending (h.carry rest more text ending are))));
}

pub closes_long_cut : (number : ℕ) (kept bytes : List ℕ) (k : ℕ) → AreTooLong kept bytes
    → Closes (record { number = number; kept = kept }) bytes [] (take k bad_command) cut_off
closes_long_cut number kept bytes k long rest =
    let first = long rest in
    subst (λ (ls : List (List ℕ)). Transcript number ls [] (take k bad_command) cut_off) (sym first.are)
    (cut_line k [] refl (too_long first.line first.long))

-- ---- What was asked and written meanwhile

pub meanwhile_none : (asked : Option (List Exchange)) (contents : Option (List ℕ)) (P : List Exchange → List ℕ → Type 0)
    → P [] [] → Meanwhile asked asked contents contents P
meanwhile_none asked contents P holds =
    record { exchanges = []; replies = []; told = adds_none asked; written = appends_nothing contents; holds = holds }

pub meanwhile_is : (a b : Option (List Exchange)) (x y : Option (List ℕ)) (P Q : List Exchange → List ℕ → Type 0)
    → ((exchanges : List Exchange) (replies : List ℕ) → P exchanges replies → Q exchanges replies) → Meanwhile a b x y P
    → Meanwhile a b x y Q
meanwhile_is a b x y P Q f h =
    record {
      exchanges = h.exchanges;
      replies = h.replies;
      told = h.told;
      written = h.written;
      holds =
          f h.exchanges h.replies h.holds;
    }

pub meanwhile_then : (a b c : Option (List Exchange)) (x y z : Option (List ℕ))
    (P Q R : List Exchange → List ℕ → Type 0) → ((m n : List Exchange) (p q : List ℕ) → P m p → Q n q
    → R (m ++ n) (p ++ q)) → Meanwhile a b x y P → Meanwhile b c y z Q → Meanwhile a c x z R
meanwhile_then a b c x y z P Q R f h k = record {
  exchanges = h.exchanges ++ k.exchanges;
  replies = h.replies ++ k.replies;
  told = adds_then a b c h.exchanges k.exchanges h.told k.told;
  written = appends_then_appends x y z h.replies k.replies h.written k.written;
  holds = f h.exchanges k.exchanges h.replies k.replies h.holds k.holds;
}

-- ---- Bytes after bytes

abbrev pub AdvancesMeanwhile : Position → Position → List ℕ → Option (List Exchange) → Option (List Exchange)
    → Option (List ℕ) → Option (List ℕ) → Type 0
AdvancesMeanwhile old new bytes asked asked' contents contents' =
    Meanwhile asked asked' contents contents' (λ exchanges replies. Advances old new bytes exchanges replies)

abbrev pub ClosesMeanwhile : Position → List ℕ → Option (List Exchange) → Option (List Exchange) → Option (List ℕ)
    → Option (List ℕ) → Ending → Type 0
ClosesMeanwhile old bytes asked asked' contents contents' ending =
    Meanwhile asked asked' contents contents' (λ exchanges replies. Closes old bytes exchanges replies ending)

pub advance_none : (at : Position) (asked : Option (List Exchange)) (contents : Option (List ℕ))
    → AdvancesMeanwhile at at [] asked asked contents contents
advance_none at asked contents =
    meanwhile_none asked contents (λ exchanges replies. Advances at at [] exchanges replies) (advances_none at)

pub advance_then : (a b c : Position) (xs ys : List ℕ) (k0 k1 k2 : Option (List Exchange)) (h0 h1 h2 : Option (List ℕ))
    → AdvancesMeanwhile a b xs k0 k1 h0 h1 → AdvancesMeanwhile b c ys k1 k2 h1 h2
    → AdvancesMeanwhile a c (xs ++ ys) k0 k2 h0 h2
advance_then a b c xs ys k0 k1 k2 h0 h1 h2 f g =
    meanwhile_then k0 k1 k2 h0 h1 h2 (λ m p. Advances a b xs m p) (λ m p. Advances b c ys m p)
    (λ m p. Advances a c (xs ++ ys) m p) (λ m n p q u v. advances_then a b c xs ys m n p q u v) f g

pub close_after : (a b : Position) (xs ys zs : List ℕ) (k0 k1 k2 : Option (List Exchange)) (h0 h1 h2 : Option (List ℕ))
    (ending : Ending) → AdvancesMeanwhile a b xs k0 k1 h0 h1 → ClosesMeanwhile b ys k1 k2 h1 h2 ending
    → ClosesMeanwhile a (xs ++ (ys ++ zs)) k0 k2 h0 h2 ending
close_after a b xs ys zs k0 k1 k2 h0 h1 h2 ending f g =
    meanwhile_then k0 k1 k2 h0 h1 h2 (λ m p. Advances a b xs m p) (λ m p. Closes b ys m p ending)
    (λ m p. Closes a (xs ++ (ys ++ zs)) m p ending) (λ m n p q u v. closes_after a b xs ys zs m n p q ending u v) f g

-- these bytes come to those before, and others follow
pub close_then : (a b : Position) (all xs ys zs : List ℕ) (k0 k1 k2 : Option (List Exchange))
    (h0 h1 h2 : Option (List ℕ)) (ending : Ending)
    → all ≡ xs ++ (ys ++ zs) → AdvancesMeanwhile a b xs k0 k1 h0 h1 → ClosesMeanwhile b ys k1 k2 h1 h2 ending
    → ClosesMeanwhile a all k0 k2 h0 h2 ending
close_then a b all xs ys zs k0 k1 k2 h0 h1 h2 ending e f g =
    subst (λ (t : List ℕ). ClosesMeanwhile a t k0 k2 h0 h2 ending) (sym e)
    (close_after a b xs ys zs k0 k1 k2 h0 h1 h2 ending f g)

-- ---- A whole line, and the writing of its reply

abbrev pub LineMeanwhile : ℕ → List ℕ → Option (List Exchange) → Option (List Exchange) → Option (List ℕ)
    → Option (List ℕ) → Ending → Type 0
LineMeanwhile number kept k0 k1 h0 h1 ending =
    Meanwhile k0 k1 h0 h1 (λ exchanges replies. (lines : List (List ℕ))
    → Transcript number (kept ∷ lines) exchanges replies ending)

-- a reply was written
pub line_written : (line : List ℕ) (k0 k1 k2 : Option (List Exchange)) (h0 h1 : Option (List ℕ)) (said : Said)
    (o : Option AdminEnd) → AnswersLine k0 k1 line said o → Delivers said k1 k2 h0 h1
    → Meanwhile k0 k2 h0 h1 (λ exchanges replies. LineTranscript line exchanges replies o)
line_written line k0 k1 k2 h0 h1 said o d w = record {
  exchanges = d.exchanges ++ w.looks;
  replies = w.text;
  told = adds_then k0 k1 k2 d.exchanges w.looks d.told w.told;
  written = w.written;
  holds = d.are w.looks w.text w.comes;
}

pub line_ends : (number : ℕ) (kept : List ℕ) (k0 k1 : Option (List Exchange)) (h0 h1 : Option (List ℕ))
    (end : AdminEnd) → Meanwhile k0 k1 h0 h1 (λ exchanges replies. LineTranscript kept exchanges replies (Some end))
    → (end ≢ ends.End) × LineMeanwhile number kept k0 k1 h0 h1 (ended end)
line_ends number kept k0 k1 h0 h1 end h = (
  not_end kept h.exchanges h.replies end h.holds,
  meanwhile_is k0 k1 h0 h1 (λ exchanges replies. LineTranscript kept exchanges replies (Some end))
      (λ exchanges replies. (lines : List (List ℕ)) → Transcript number (kept ∷ lines) exchanges replies (ended end))
      (λ exchanges replies are lines. last_line are) h,
)

pub line_is_last : (number : ℕ) (kept : List ℕ) (k0 k1 : Option (List Exchange)) (h0 h1 : Option (List ℕ))
    → Meanwhile k0 k1 h0 h1 (λ exchanges replies. LineTranscript kept exchanges replies None) → number ≡ MAX_LINES
    → (ends.TooManyLines ≢ ends.End) × LineMeanwhile number kept k0 k1 h0 h1 (ended ends.TooManyLines)
line_is_last number kept k0 k1 h0 h1 h at = (
  λ e. absurd (cc),
  meanwhile_is k0 k1 h0 h1 (λ exchanges replies. LineTranscript kept exchanges replies None)
      (λ exchanges replies. (lines : List (List ℕ))
      → Transcript number (kept ∷ lines) exchanges replies (ended ends.TooManyLines))
      (λ exchanges replies are lines. subst (λ (n : ℕ). Transcript n (kept ∷ lines) exchanges replies
      (ended ends.TooManyLines)) (sym at) (line_limit are)) h,
)

-- a front of a reply was written
pub line_breaks : (number : ℕ) (kept : List ℕ) (k0 k1 k2 : Option (List Exchange)) (h0 h1 : Option (List ℕ))
    (said : Said) (o : Option AdminEnd) → AnswersLine k0 k1 kept said o → DeliversFront said k1 k2 h0 h1
    → LineMeanwhile number kept k0 k2 h0 h1 cut_off
line_breaks number kept k0 k1 k2 h0 h1 said o d w = record {
  exchanges = d.exchanges ++ w.looks;
  replies = take w.count w.text;
  told = adds_then k0 k1 k2 d.exchanges w.looks d.told w.told;
  written = w.written;
  holds = λ lines. cut_line w.count w.missing w.unasked
      (subst (λ (m : List Exchange). LineTranscript kept m w.text o)
      (sym (append_assoc d.exchanges w.looks w.missing)) (d.are (w.looks ++ w.missing) w.text w.comes));
}

-- the line that these bytes end
pub line_closes : (number : ℕ) (kept line bytes : List ℕ) (k0 k1 : Option (List Exchange)) (h0 h1 : Option (List ℕ))
    (ending : Ending)
    → EndsLines kept bytes (line ∷ []) [] → LineMeanwhile number line k0 k1 h0 h1 ending
    → ClosesMeanwhile (record { number = number; kept = kept }) bytes k0 k1 h0 h1 ending
line_closes number kept line bytes k0 k1 h0 h1 ending ends h =
    meanwhile_is k0 k1 h0 h1 (λ exchanges replies. (lines : List (List ℕ))
    → Transcript number (line ∷ lines) exchanges replies ending)
    (λ exchanges replies. Closes (record { number = number; kept = kept }) bytes exchanges replies ending)
    (λ exchanges replies are. closes_line number kept line bytes exchanges replies ending ends are) h

pub line_advances : (number : ℕ) (kept line bytes : List ℕ) (new : Position) (k0 k1 : Option (List Exchange))
    (h0 h1 : Option (List ℕ))
    → EndsLines kept bytes (line ∷ []) [] → number < MAX_LINES → new ≡ record { number = number + 1; kept = [] }
    → Meanwhile k0 k1 h0 h1 (λ exchanges replies. LineTranscript line exchanges replies None)
    → AdvancesMeanwhile (record { number = number; kept = kept }) new bytes k0 k1 h0 h1
line_advances number kept line bytes new k0 k1 h0 h1 ends few e h =
    meanwhile_is k0 k1 h0 h1 (λ exchanges replies. LineTranscript line exchanges replies None)
    (λ exchanges replies. Advances (record { number = number; kept = kept }) new bytes exchanges replies)
    (λ exchanges replies are. advances_line number kept line bytes new exchanges replies ends few e are) h

pub finish_closes : (number : ℕ) (kept : List ℕ) (k0 k1 : Option (List Exchange)) (h0 h1 : Option (List ℕ))
    (ending : Ending) → Lacks line_feed kept → 0 < length kept → LineMeanwhile number kept k0 k1 h0 h1 ending
    → Meanwhile k0 k1 h0 h1 (λ exchanges replies. Transcript number (lines_of kept) exchanges replies ending)
finish_closes number kept k0 k1 h0 h1 ending lacks some h =
    meanwhile_is k0 k1 h0 h1 (λ exchanges replies. (lines : List (List ℕ))
    → Transcript number (kept ∷ lines) exchanges replies ending)
    (λ exchanges replies. Transcript number (lines_of kept) exchanges replies ending)
    (λ exchanges replies are. last_line_closes number kept exchanges replies ending lacks some are) h

pub finish_ends : (number : ℕ) (kept : List ℕ) (k0 k1 : Option (List Exchange)) (h0 h1 : Option (List ℕ))
    → Lacks line_feed kept → 0 < length kept → number < MAX_LINES
    → Meanwhile k0 k1 h0 h1 (λ exchanges replies. LineTranscript kept exchanges replies None)
    → Meanwhile k0 k1 h0 h1 (λ exchanges replies. Transcript number (lines_of kept) exchanges replies (ended ends.End))
finish_ends number kept k0 k1 h0 h1 lacks some few h =
    meanwhile_is k0 k1 h0 h1 (λ exchanges replies. LineTranscript kept exchanges replies None)
    (λ exchanges replies. Transcript number (lines_of kept) exchanges replies (ended ends.End))
    (λ exchanges replies are. last_line_ends number kept exchanges replies lacks some few are) h

-- a line that is too long, and the writing of its reply
pub long_closes : (number : ℕ) (kept bytes : List ℕ) (asked : Option (List Exchange)) (h0 h1 : Option (List ℕ))
    → AreTooLong kept bytes → Appends h0 h1 bad_command
    → ClosesMeanwhile (record { number = number; kept = kept }) bytes asked asked h0 h1 (ended ends.TooLong)
long_closes number kept bytes asked h0 h1 long w =
    record {
      exchanges = [];
      replies = bad_command;
      told = adds_none asked;
      written = w;
      holds =
          closes_long number kept bytes long;
    }

pub long_breaks : (number : ℕ) (kept bytes : List ℕ) (asked : Option (List Exchange)) (h0 h1 : Option (List ℕ))
    → AreTooLong kept bytes → AppendsFront h0 h1 bad_command
    → ClosesMeanwhile (record { number = number; kept = kept }) bytes asked asked h0 h1 cut_off
long_breaks number kept bytes asked h0 h1 long w =
    record {
      exchanges = [];
      replies = take w.0 bad_command;
      told = adds_none asked;
      written = w.2;
      holds =
          closes_long_cut number kept bytes w.0 long;
    }

-- ---- All lines among the bytes that were read

-- some of these bytes, `done`, ended lines; these are left
pub record Answered (first at : Position) (all left : List ℕ) (k0 k1 : Option (List Exchange))
    (h0 h1 : Option (List ℕ)) : Type 0 where
  pub done : List ℕ
  pub cut : all ≡ done ++ left
  pub further : progress_of first + length done ≤ progress_of at
  pub advances : AdvancesMeanwhile first at done k0 k1 h0 h1

pub answered_none : (at : Position) (all : List ℕ) (asked : Option (List Exchange)) (contents : Option (List ℕ))
    → Answered at at all all asked asked contents contents
answered_none at all asked contents =
    record { done = []; cut = refl; further = omega arith; advances = advance_none at asked contents }

-- one line more
pub answered_more : (first : Position) (number : ℕ) (new : Position) (old found : Reading) (all left : List ℕ)
    (k0 k1 k2 : Option (List Exchange)) (h0 h1 h2 : Option (List ℕ))
    → Answered first (record { number = number; kept = old.held }) all old.ahead k0 k1 h0 h1 → LineEnds old found
    → length found.held ≤ MAX_LINE_BYTES
    → number < MAX_LINES → new ≡ record { number = number + 1; kept = [] } → left ≡ found.ahead
    → Meanwhile k1 k2 h1 h2 (λ exchanges replies. LineTranscript found.held exchanges replies None)
    → Answered first new all left k0 k2 h0 h2
answered_more first number new old found all left k0 k1 k2 h0 h1 h2 f l short few e same line =
    let at : Position = record { number = number; kept = old.held } in
    let one = line_advances number old.held found.held l.bytes new k1 k2 h1 h2 l.ends few e line in
    let before : progress_of first + length f.done ≤ (MAX_LINE_BYTES + 1) * number + length old.held = f.further in
    let further : progress_of first + length (f.done ++ l.bytes) ≤ progress_of
    (record { number = number + 1; kept = [] }) =
    omega (arith, length-append f.done l.bytes, l.counted) in
    record {
      done = f.done ++ l.bytes;
      cut =
          f.cut ∙ ap (λ (t : List ℕ). f.done ++ t) l.cut ∙ sym (append_assoc f.done l.bytes found.ahead)
          ∙ ap (λ (t : List ℕ). (f.done ++ l.bytes) ++ t) (sym same);
      further = subst (λ (p : Position). progress_of first + length (f.done ++ l.bytes) ≤ progress_of p)
          (sym e) further;
      advances = advance_then first at new f.done l.bytes k0 k1 k2 h0 h1 h2 f.advances one;
    }

-- a line that closes the session
pub answered_closes : (first : Position) (number : ℕ) (old found : Reading) (all : List ℕ)
    (k0 k1 k2 : Option (List Exchange)) (h0 h1 h2 : Option (List ℕ)) (ending : Ending)
    → Answered first (record { number = number; kept = old.held }) all old.ahead k0 k1 h0 h1 → LineEnds old found
    → LineMeanwhile number found.held k1 k2 h1 h2 ending → ClosesMeanwhile first all k0 k2 h0 h2 ending
answered_closes first number old found all k0 k1 k2 h0 h1 h2 ending f l line =
    close_then first (record { number = number; kept = old.held }) all f.done l.bytes found.ahead k0 k1 k2 h0 h1 h2
    ending
    (f.cut ∙ ap (λ (t : List ℕ). f.done ++ t) l.cut) f.advances
    (line_closes number old.held found.held l.bytes k1 k2 h1 h2 ending l.ends line)

-- a line that is too long closes it
pub answered_closes_long : (first : Position) (number : ℕ) (old : Reading) (all : List ℕ)
    (k0 k1 k2 : Option (List Exchange)) (h0 h1 h2 : Option (List ℕ)) (ending : Ending)
    → Answered first (record { number = number; kept = old.held }) all old.ahead k0 k1 h0 h1
    → ClosesMeanwhile (record { number = number; kept = old.held }) old.ahead k1 k2 h1 h2 ending
    → ClosesMeanwhile first all k0 k2 h0 h2 ending
answered_closes_long first number old all k0 k1 k2 h0 h1 h2 ending f long =
    close_then first (record { number = number; kept = old.held }) all f.done old.ahead [] k0 k1 k2 h0 h1 h2 ending
    (f.cut ∙ ap (λ (t : List ℕ). f.done ++ t) (sym (append-nil old.ahead))) f.advances long

-- no line is left, and the rest is of the next one
pub answered_all : (first : Position) (number : ℕ) (old found : Reading) (all : List ℕ) (k0 k1 : Option (List Exchange))
    (h0 h1 : Option (List ℕ))
    → Answered first (record { number = number; kept = old.held }) all old.ahead k0 k1 h0 h1 → LineGrows old found
    → (progress_of first + length all ≤ progress_of (record { number = number; kept = found.held }))
    × AdvancesMeanwhile first (record { number = number; kept = found.held }) all k0 k1 h0 h1
answered_all first number old found all k0 k1 h0 h1 f l =
    let at : Position = record { number = number; kept = old.held } in
    let new : Position = record { number = number; kept = found.held } in
    let before : progress_of first + length f.done ≤ (MAX_LINE_BYTES + 1) * number + length old.held = f.further in
    let part = advances_part number old.held found.held old.ahead l.ends in (
      omega (arith, ap length f.cut, length-append f.done old.ahead, l.counted),
      subst (λ (t : List ℕ). AdvancesMeanwhile first new t k0 k1 h0 h1) (sym f.cut)
          (advance_then first at new f.done old.ahead k0 k1 k1 h0 h1 h1 f.advances
          (meanwhile_none k1 h1 (λ exchanges replies. Advances at new old.ahead exchanges replies) part)),
    )

-- ---- The session writes the reply

pub reply_breaks : (end : Option AdminEnd) (number : ℕ) (kept : List ℕ) (new : Position)
    (k0 k1 k2 : Option (List Exchange)) (h0 h1 : Option (List ℕ)) (said : Said)
    → ReplyComesTo end (record { number = number; kept = kept }) new k0 k1 said
    → DeliversFront said k1 k2 h0 h1 → LineMeanwhile number kept k0 k2 h0 h1 cut_off
reply_breaks None number kept new k0 k1 k2 h0 h1 said d w =
    line_breaks number kept k0 k1 k2 h0 h1 said None d.2 w
reply_breaks (Some end) number kept new k0 k1 k2 h0 h1 said (_, inl are) w =
    line_breaks number kept k0 k1 k2 h0 h1 said (Some end) are w
reply_breaks (Some end) number kept new k0 k1 k2 h0 h1 said (_, inr last) w =
    line_breaks number kept k0 k1 k2 h0 h1 said None last.2 w

pub reply_ends : (end : AdminEnd) (number : ℕ) (kept : List ℕ) (new : Position)
    (k0 k1 k2 : Option (List Exchange)) (h0 h1 : Option (List ℕ)) (said : Said)
    → ReplyComesTo (Some end) (record { number = number; kept = kept }) new k0 k1 said
    → Delivers said k1 k2 h0 h1 → (end ≢ ends.End) × LineMeanwhile number kept k0 k2 h0 h1 (ended end)
reply_ends end number kept new k0 k1 k2 h0 h1 said (_, inl are) w =
    line_ends number kept k0 k2 h0 h1 end (line_written kept k0 k1 k2 h0 h1 said (Some end) are w)
reply_ends end number kept new k0 k1 k2 h0 h1 said (_, inr last) w =
    subst (λ (x : AdminEnd). (x ≢ ends.End) × LineMeanwhile number kept k0 k2 h0 h1 (ended x)) (sym last.1)
    (line_is_last number kept k0 k2 h0 h1 (line_written kept k0 k1 k2 h0 h1 said None last.2 w) last.0)

pub reply_goes_on : (old new : Position) (k0 k1 k2 : Option (List Exchange)) (h0 h1 : Option (List ℕ)) (said : Said)
    → ReplyComesTo None old new k0 k1 said → Delivers said k1 k2 h0 h1
    → LineComesTo step.GoesOn old new k0 k2 h0 h1
reply_goes_on old new k0 k1 k2 h0 h1 said d w =
    (d.0, d.1, line_written old.kept k0 k1 k2 h0 h1 said None d.2 w)
