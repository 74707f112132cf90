-- Bytes, and how far they bring a run.
use Rattle.std.specs.Prelude.{◌≡◌, ◌+◌, ◌*◌, ◌≤◌, ◌<◌, ◌∷◌, ◌++◌, ◌⊎◌}
use Rattle.lockword_script.proofs.Words.{◌∙◌, sym, ap, refl, subst, ℕ, List, []}
use Rattle.lockword_script.proofs.Words.{length, arith, inr, append_assoc, length-append, append-nil}
use Rattle.lockword_script.proofs.Words.{Reading, EndsLines, Lacks, line_feed, lines_of, HasLongFirstLine, ends_none}
use Rattle.lockword_script.proofs.Words.{ends_then, lines_of-empty, lines_of-last_line, LineEnds, LineGrows, Op}
use Rattle.lockword_script.proofs.Words.{LockState, state_after, MAX_LINES, MAX_LINE_BYTES, Says, IsBadLine, events_of}
use Rattle.lockword_script.proofs.Words.{Prints, printed_of_events, printed_of_bad_line, whole, good, bad, Progress}
use Rattle.lockword_script.proofs.Words.{IsReady, Advances, StopsAt, LeadsOn, LeadsToBadLine, LeadsPartly, LeadsToEnd}
use Rattle.lockword_script.proofs.Words.{spent, End, Whole, BadLine}
use Rattle.lockword_script.proofs.ScriptLemmas.{long_line_bad}

-- ---- Going on

pub advances_itself : (p : Progress) → Advances p p [] []
advances_itself p = record { front = []; ends = ends_none p.partial; carry = λ more text end h. h }

-- bytes of a line that isn't ended
pub advances_by_part : (number : ℕ) (state : LockState) (partial partial' bytes : List ℕ)
    → EndsLines partial bytes [] partial'
    → Advances (record { number = number; state = state; partial = partial })
    (record { number = number; state = state; partial = partial' }) bytes []
advances_by_part number state partial partial' bytes ends =
    record { front = []; ends = ends; carry = λ more text end h. h }

-- bytes that end a good line
pub advances_by_line : (number : ℕ) (state : LockState) (partial line bytes : List ℕ) (new : Progress) (first count : ℕ)
    (asked : Op)
    → EndsLines partial bytes (line ∷ []) [] → number ≤ MAX_LINES → Says line first count asked
    → new ≡ record { number = number + 1; state = state_after state (events_of first count asked); partial = [] }
    → Advances (record { number = number; state = state; partial = partial }) new bytes
    (printed_of_events state first count asked)
advances_by_line number state partial line bytes new first count asked ends few says e =
    let old : Progress = record { number = number; state = state; partial = partial } in
    subst (λ (p : Progress). Advances old p bytes (printed_of_events state first count asked)) (sym e)
    (record { front = line ∷ []; ends = ends; carry = λ more text end h. good first count asked text few says h })

-- one way after the other
pub advances_on : (a b c : Progress) (x y p q : List ℕ) → Advances a b x p → Advances b c y q
    → Advances a c (x ++ y) (p ++ q)
advances_on a b c x y p q g h = record {
  front = g.front ++ h.front;
  ends = ends_then a.partial b.partial c.partial x y g.front h.front g.ends h.ends;
  carry = λ more text end pr.
      subst (λ (t : List ℕ). Prints a.number a.state ((g.front ++ h.front) ++ more) t end) (sym (append_assoc p q text))
      (subst (λ (ls : List (List ℕ)). Prints a.number a.state ls (p ++ (q ++ text)) end)
      (sym (append_assoc g.front h.front more))
      (g.carry (h.front ++ more) (q ++ text) end (h.carry more text end pr)));
}

-- ---- Stopping

pub stops_later : (a b : Progress) (x y z p q : List ℕ) (k : ℕ) → Advances a b x p → StopsAt b y q k
    → StopsAt a (x ++ (y ++ z)) (p ++ q) k
stops_later a b x y z p q k g s rest =
    let lines : lines_of (a.partial ++ ((x ++ (y ++ z)) ++ rest)) ≡ g.front
    ++ lines_of (b.partial ++ (y ++ (z ++ rest))) =
    ap (λ (t : List ℕ). lines_of (a.partial ++ t))
    (append_assoc x (y ++ z) rest ∙ ap (λ (t : List ℕ). x ++ t) (append_assoc y z rest))
    ∙ g.ends.cut (y ++ (z ++ rest)) in
    subst (λ (ls : List (List ℕ)). Prints a.number a.state ls (p ++ q) (BadLine k)) (sym lines)
    (g.carry (lines_of (b.partial ++ (y ++ (z ++ rest)))) q (BadLine k) (s (z ++ rest)))

-- bytes that end a line which is bad, or one too many
pub stops_at_line : (number : ℕ) (state : LockState) (partial line bytes : List ℕ) (k : ℕ)
    → EndsLines partial bytes (line ∷ []) [] → k ≡ number
    → (MAX_LINES < number) ⊎ IsBadLine line → StopsAt (record { number = number; state = state; partial = partial })
    bytes (printed_of_bad_line k) k
stops_at_line number state partial line bytes k ends same why rest =
    subst (λ (c : ℕ). Prints number state (lines_of (partial ++ (bytes ++ rest))) (printed_of_bad_line c) (BadLine c))
    (sym same)
    (subst (λ (ls : List (List ℕ)). Prints number state ls (printed_of_bad_line number) (BadLine number))
    (sym (ends.cut rest)) (bad why))

-- bytes by which a line is too long, whatever follows
pub stops_long : (number : ℕ) (state : LockState) (partial bytes : List ℕ)
    → ((more : List ℕ) → HasLongFirstLine MAX_LINE_BYTES (partial ++ (bytes ++ more)))
    → StopsAt (record { number = number; state = state; partial = partial }) bytes (printed_of_bad_line number) number
stops_long number state partial bytes long rest =
    let s = long rest in
    subst (λ (ls : List (List ℕ)). Prints number state ls (printed_of_bad_line number) (BadLine number)) (sym s.are)
    (bad (inr (long_line_bad s.line s.long)))

-- ---- The end

pub ends_between_lines : (number : ℕ) (state : LockState) (partial : List ℕ) → length partial ≡ 0
    → Prints number state (lines_of partial) [] Whole
ends_between_lines number state partial none =
    subst (λ (ls : List (List ℕ)). Prints number state ls [] Whole) (sym (lines_of-empty partial none)) whole

pub ends_with_good_line : (number : ℕ) (state : LockState) (line : List ℕ) (first count : ℕ) (asked : Op)
    → Lacks line_feed line → 0 < length line → number ≤ MAX_LINES → Says line first count asked
    → Prints number state (lines_of line) (printed_of_events state first count asked) Whole
ends_with_good_line number state line first count asked l some few says =
    let printed : List ℕ = printed_of_events state first count asked in
    subst (λ (t : List ℕ). Prints number state (lines_of line) t Whole) (append-nil printed)
    (subst (λ (ls : List (List ℕ)). Prints number state ls (printed ++ []) Whole) (sym (lines_of-last_line line l some))
    (good first count asked [] few says whole))

pub ends_with_bad_line : (number : ℕ) (state : LockState) (line : List ℕ) (k : ℕ) → Lacks line_feed line
    → 0 < length line → k ≡ number → (MAX_LINES < number) ⊎ IsBadLine line
    → Prints number state (lines_of line) (printed_of_bad_line k) (BadLine k)
ends_with_bad_line number state line k l some same why =
    subst (λ (c : ℕ). Prints number state (lines_of line) (printed_of_bad_line c) (BadLine c)) (sym same)
    (subst (λ (ls : List (List ℕ)). Prints number state ls (printed_of_bad_line number) (BadLine number))
    (sym (lines_of-last_line line l some)) (bad why))

-- ---- Ready for the next line

pub ready_next : (number : ℕ) (new : Progress) (state : LockState) → number ≤ MAX_LINES
    → new ≡ record { number = number + 1; state = state; partial = [] } → IsReady new
ready_next number new state few e =
    subst IsReady (sym e) (record { numbered = omega arith; short = omega arith; unended = tt })

-- ---- Over many bytes, with what the output holds before and after

pub leads_nowhere : (p : Progress) (out : List ℕ) → LeadsOn p p [] out out
leads_nowhere p out = record { printed = []; put = sym (append-nil out); advances = advances_itself p }

pub leads_then : (a b c : Progress) (xs ys out0 out1 out2 : List ℕ) → LeadsOn a b xs out0 out1
    → LeadsOn b c ys out1 out2 → LeadsOn a c (xs ++ ys) out0 out2
leads_then a b c xs ys out0 out1 out2 f g = record {
  printed = f.printed ++ g.printed;
  put = g.put ∙ ap (λ (t : List ℕ). t ++ g.printed) f.put ∙ append_assoc out0 f.printed g.printed;
  advances = advances_on a b c xs ys f.printed g.printed f.advances g.advances;
}

-- some of these bytes, `done`, ended lines; these are left
pub record Ran (first at : Progress) (all left before after : List ℕ) : Type 0 where
  pub done : List ℕ
  pub cut : all ≡ done ++ left
  pub paid : spent first + length done ≤ spent at
  pub leads : LeadsOn first at done before after

pub ran_none : (p : Progress) (all out : List ℕ) → Ran p p all all out out
ran_none p all out = record { done = []; cut = refl; paid = omega arith; leads = leads_nowhere p out }

-- one line more
pub ran_more : (first : Progress) (number : ℕ) (state : LockState) (new : Progress) (old found : Reading)
    (all left out0 out1 out2 : List ℕ) (from count : ℕ) (asked : Op)
    → Ran first (record { number = number; state = state; partial = old.held }) all old.ahead out0 out1
    → LineEnds old found → length found.held ≤ MAX_LINE_BYTES
    → number ≤ MAX_LINES → Says found.held from count asked
    → new ≡ record { number = number + 1; state = state_after state (events_of from count asked); partial = [] }
    → out2 ≡ out1 ++ printed_of_events state from count asked → left ≡ found.ahead → Ran first new all left out0 out2
ran_more first number state new old found all left out0 out1 out2 from count asked f l short few says e put same =
    let at : Progress = record { number = number; state = state; partial = old.held } in
    let one : LeadsOn at new l.bytes out1 out2 = record {
      printed = printed_of_events state from count asked;
      put = put;
      advances = advances_by_line number state old.held found.held l.bytes new from count asked l.ends few says e;
    } in
    let before : spent first + length f.done ≤ (MAX_LINE_BYTES + 1) * number + length old.held = f.paid in
    let paid : spent first + length (f.done ++ l.bytes) ≤ (MAX_LINE_BYTES + 1) * (number + 1) + 0 =
    omega (arith, length-append f.done l.bytes, l.counted) in
    record {
      done = f.done ++ l.bytes;
      cut =
          f.cut ∙ ap (λ (t : List ℕ). f.done ++ t) l.cut ∙ sym (append_assoc f.done l.bytes found.ahead)
          ∙ ap (λ (t : List ℕ). (f.done ++ l.bytes) ++ t) (sym same);
      paid = subst (λ (p : Progress). spent first + length (f.done ++ l.bytes) ≤ spent p) (sym e) paid;
      leads = leads_then first at new f.done l.bytes out0 out1 out2 f.leads one;
    }

-- a line that ends the script
ran_stops : (first at : Progress) (all bytes left ahead out0 out1 out2 : List ℕ) (k : ℕ)
    → Ran first at all ahead out0 out1 → ahead ≡ bytes ++ left
    → LeadsToBadLine at bytes out1 out2 k → LeadsToBadLine first all out0 out2 k
ran_stops first at all bytes left ahead out0 out1 out2 k f cut g = record {
  printed = f.leads.printed ++ g.printed;
  put = g.put ∙ ap (λ (t : List ℕ). t ++ g.printed) f.leads.put ∙ append_assoc out0 f.leads.printed g.printed;
  stops =
      subst (λ (t : List ℕ). StopsAt first t (f.leads.printed ++ g.printed) k)
      (sym (f.cut ∙ ap (λ (t : List ℕ). f.done ++ t) cut))
      (stops_later first at f.done bytes left f.leads.printed g.printed k f.leads.advances g.stops);
}

pub ran_to_bad_line : (first : Progress) (number : ℕ) (state : LockState) (old found : Reading)
    (all out0 out1 out2 : List ℕ) (k : ℕ)
    → Ran first (record { number = number; state = state; partial = old.held }) all old.ahead out0 out1
    → LineEnds old found → k ≡ number
    → (MAX_LINES < number) ⊎ IsBadLine found.held → out2 ≡ out1 ++ printed_of_bad_line k
    → LeadsToBadLine first all out0 out2 k
ran_to_bad_line first number state old found all out0 out1 out2 k f l same why put =
    ran_stops first (record { number = number; state = state; partial = old.held }) all l.bytes found.ahead old.ahead
    out0 out1 out2 k f l.cut
    (record {
      printed = printed_of_bad_line k;
      put = put;
      stops =
          stops_at_line number state old.held found.held l.bytes k l.ends same why;
    })

pub ran_to_long_line : (first : Progress) (number : ℕ) (state : LockState) (old : Reading) (all out0 out1 out2 : List ℕ)
    → Ran first (record { number = number; state = state; partial = old.held }) all old.ahead out0 out1
    → ((more : List ℕ) → HasLongFirstLine MAX_LINE_BYTES (old.held ++ (old.ahead ++ more)))
    → out2 ≡ out1 ++ printed_of_bad_line number → LeadsToBadLine first all out0 out2 number
ran_to_long_line first number state old all out0 out1 out2 f long put =
    ran_stops first (record { number = number; state = state; partial = old.held }) all old.ahead [] old.ahead out0 out1
    out2 number f (sym (append-nil old.ahead))
    (record {
      printed = printed_of_bad_line number;
      put = put;
      stops =
          stops_long number state old.held old.ahead long;
    })

-- no line is left, and the rest is of the next one
pub ran_all : (first : Progress) (number : ℕ) (state : LockState) (old found : Reading) (all out0 out1 : List ℕ)
    → Ran first (record { number = number; state = state; partial = old.held }) all old.ahead out0 out1
    → LineGrows old found
    → (spent first + length all ≤ spent (record { number = number; state = state; partial = found.held }))
    × LeadsOn first (record { number = number; state = state; partial = found.held }) all out0 out1
ran_all first number state old found all out0 out1 f l =
    let at : Progress = record { number = number; state = state; partial = old.held } in
    let new : Progress = record { number = number; state = state; partial = found.held } in
    let before : spent first + length f.done ≤ (MAX_LINE_BYTES + 1) * number + length old.held = f.paid in
    let part : LeadsOn at new old.ahead out1 out1 = record {
      printed = [];
      put = sym (append-nil out1);
      advances = advances_by_part number state old.held found.held old.ahead l.ends;
    } in (
      omega (arith, ap length f.cut, length-append f.done old.ahead, l.counted),
      subst (λ (t : List ℕ). LeadsOn first new t out0 out1) (sym f.cut)
          (leads_then first at new f.done old.ahead out0 out1 out1 f.leads part),
    )

-- memory was refused
pub ran_partly : (first at : Progress) (all left out0 out1 out2 : List ℕ) → Ran first at all left out0 out1
    → out2 ≡ out1 → LeadsPartly first all out0 out2
ran_partly first at all left out0 out1 out2 f e = record {
  printed = f.leads.printed;
  put = e ∙ f.leads.put;
  advances = record { new = at; done = f.done; left = left; split = f.cut; advances = f.leads.advances };
}

-- nothing was done
pub leads_partly_nowhere : (p : Progress) (bytes before after : List ℕ) → after ≡ before
    → LeadsPartly p bytes before after
leads_partly_nowhere p bytes before after e = record {
  printed = [];
  put = e ∙ sym (append-nil before);
  advances = record { new = p; done = []; left = bytes; split = refl; advances = advances_itself p };
}

-- ---- To the end of the script

pub empty_of_length : (xs : List ℕ) → length xs ≡ 0 → xs ≡ []
empty_of_length [] e = refl
empty_of_length (x ∷ xs) e = absurd (omega arith)

-- no byte is left
pub leads_to_end : (p : Progress) (bytes before after printed : List ℕ) (end : End) → bytes ≡ []
    → after ≡ before ++ printed → Prints p.number p.state (lines_of p.partial) printed end
    → LeadsToEnd p bytes before after end
leads_to_end p bytes before after printed end none put h = record {
  printed = printed;
  put = put;
  prints = λ rest at_end.
      subst (λ (t : List ℕ). Prints p.number p.state (lines_of t) printed end)
      (sym (ap (λ (t : List ℕ). p.partial ++ t) (ap (λ (t : List ℕ). t ++ rest) none ∙ at_end none)
      ∙ append-nil p.partial)) h;
  whole = λ e. none;
}

-- a line is bad
pub bad_line_leads_to_end : (p : Progress) (bytes before after : List ℕ) (k : ℕ) → LeadsToBadLine p bytes before after k
    → LeadsToEnd p bytes before after (BadLine k)
bad_line_leads_to_end p bytes before after k l =
    record { printed = l.printed; put = l.put; prints = λ rest at_end. l.stops rest; whole = λ e. absurd (cc) }
