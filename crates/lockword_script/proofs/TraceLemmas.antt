-- What is known of the script and of the text, one chunk after the other.
use Rattle.std.specs.Prelude.{◌≡◌, ◌++◌}
use Rattle.lockword_script.proofs.Words.{◌∙◌, sym, ap, refl, subst, ℕ, List, [], length, take}
use Rattle.lockword_script.proofs.Words.{drop, Option, None, Some, Result, Ok, Err, append_assoc, arith}
use Rattle.lockword_script.proofs.Words.{IfSome, IfNone, IfOk, OnErr, Appends, Consumes, Keeps, IsAtEnd, append-nil}
use Rattle.lockword_script.proofs.Words.{take-append-drop, AppendsFront, ended_lines, lines_of, appends_nothing}
use Rattle.lockword_script.proofs.Words.{appends_then_appends, appends_then_keeps, consumes_nothing}
use Rattle.lockword_script.proofs.Words.{consumes_then_consumes, consumes_then_keeps, empty, Prints, IsTextOf, whole}
use Rattle.lockword_script.proofs.Words.{Progress, IsReady, Advances, AdvancesPartly, LeadsOn, LeadsPartly, LeadsToEnd}
use Rattle.lockword_script.proofs.Words.{start, IsTextOfFirstLines, IsTextOfWholeLines, TextBegins, End, Whole}
use Rattle.lockword_script.proofs.ProgressLemmas.{advances_itself, advances_on}
use Rattle.lockword_script.proofs.TextLemmas.{some_text}

-- so much of the script was consumed and so much of its text was written
pub record Went (left left' held held' : Option (List ℕ)) (p : Progress) : Type 0 where
  pub got : List ℕ
  pub text : List ℕ
  pub consumed : Consumes left left' got
  pub appended : Appends held held' text
  pub advances : Advances start p got text

pub went_nowhere : (left held held' : Option (List ℕ)) (p : Progress) → p ≡ start → Keeps held held'
    → Went left left held held' p
went_nowhere left held held' p e k = record {
  got = [];
  text = [];
  consumed = consumes_nothing left;
  appended = appends_then_keeps held held held' [] (appends_nothing held) k;
  advances = subst (λ (q : Progress). Advances start q [] []) (sym e) (advances_itself start);
}

pub ready_at_start : (p : Progress) → p ≡ start → IsReady p
ready_at_start p e = subst IsReady (sym e) (record { numbered = omega arith; short = omega arith; unended = tt })

-- what was printed is what is written, where the output was empty before
printed_is_written : (before after written printed : List ℕ) → before ≡ [] → written ≡ after → after ≡ before ++ printed
    → printed ≡ written
printed_is_written before after written printed e w a = sym (w ∙ a ∙ ap (λ (t : List ℕ). t ++ printed) e)

pub went_on : (left left' left'' held held' held'' : Option (List ℕ)) (p p' : Progress)
    (bytes before after written : List ℕ) → Went left left' held held' p
    → Consumes left' left'' bytes → Appends held' held'' written → before ≡ [] → written ≡ after
    → LeadsOn p p' bytes before after → Went left left'' held held'' p'
went_on left left' left'' held held' held'' p p' bytes before after written went c a e w l = record {
  got = went.got ++ bytes;
  text = went.text ++ written;
  consumed = consumes_then_consumes left left' left'' went.got bytes went.consumed c;
  appended = appends_then_appends held held' held'' went.text written went.appended a;
  advances =
      advances_on start p p' went.got bytes went.text written went.advances
      (subst (Advances p p' bytes) (printed_is_written before after written l.printed e w l.put) l.advances);
}

-- ---- The script as a whole

-- what holds of the bytes consumed, with whatever can follow them, holds of the script
of_script : (P : List ℕ → Type 0) (left left' left'' : Option (List ℕ)) (got bytes : List ℕ) → Consumes left left' got
    → Consumes left' left'' bytes → (bytes ≡ [] → IsAtEnd left'')
    → ((rest : List ℕ) → (bytes ≡ [] → rest ≡ []) → P (got ++ (bytes ++ rest))) → IfSome left P
of_script P None left' left'' got bytes c d end f = tt
of_script P (Some x) None left'' got bytes c d end f = absurd c
of_script P (Some x) (Some y) None got bytes c d end f = absurd d
of_script P (Some x) (Some y) (Some z) got bytes c d end f =
    subst P (sym (c ∙ ap (λ (t : List ℕ). got ++ t) d)) (f z end)

-- the text of a script that ends here
text_at_end : (p : Progress) (got text bytes printed rest : List ℕ) (end : End) → Advances start p got text
    → Prints p.number p.state (lines_of (p.partial ++ (bytes ++ rest))) printed end
    → IsTextOf (got ++ (bytes ++ rest)) (text ++ printed) end
text_at_end p got text bytes printed rest end g h =
    subst (λ (ls : List (List ℕ)). Prints 1 empty ls (text ++ printed) end) (sym (g.ends.cut (bytes ++ rest)))
    (g.carry (lines_of (p.partial ++ (bytes ++ rest))) printed end h)

pub whole_text : (left left' left'' held held' held'' : Option (List ℕ)) (p : Progress)
    (bytes before after written : List ℕ) (end : End) → Went left left' held held' p
    → Consumes left' left'' bytes → Appends held' held'' written → before ≡ [] → written ≡ after
    → (bytes ≡ [] → IsAtEnd left'') → LeadsToEnd p bytes before after end
    → IfSome left (λ script. (text : List ℕ) × IsTextOf script text end × Appends held held'' text)
whole_text left left' left'' held held' held'' p bytes before after written end went c a e w at_end l =
    of_script (λ (script : List ℕ). (text : List ℕ) × IsTextOf script text end × Appends held held'' text) left left'
    left'' went.got bytes went.consumed c at_end
    (λ rest none. (
      went.text ++ written,
      text_at_end p went.got went.text bytes written rest end went.advances
          (subst (λ (t : List ℕ). Prints p.number p.state (lines_of (p.partial ++ (bytes ++ rest))) t end)
          (printed_is_written before after written l.printed e w l.put) (l.prints rest none)),
      appends_then_appends held held' held'' went.text written went.appended a,
    ))

-- nothing was read: the source is at its end
pub at_end_of_none : (n : ℕ) (ahead : List ℕ) (left : Option (List ℕ)) → n ≡ length ahead → (n ≡ 0 → IsAtEnd left)
    → ahead ≡ [] → IsAtEnd left
at_end_of_none n ahead left count at_end e = at_end (omega (arith, count, ap length e))

-- a read leaves the line as it is
pub still_ready : (p : Progress) (partial' : List ℕ) → partial' ≡ p.partial → IsReady p
    → IsReady (record { number = p.number; state = p.state; partial = partial' })
still_ready p partial' e ready =
    subst (λ (t : List ℕ). IsReady (record { number = p.number; state = p.state; partial = t })) (sym e) ready

pub still_went : (left left' held held' : Option (List ℕ)) (p : Progress) (partial' : List ℕ) → partial' ≡ p.partial
    → Went left left' held held' p
    → Went left left' held held' (record { number = p.number; state = p.state; partial = partial' })
still_went left left' held held' p partial' e went =
    subst (λ (t : List ℕ). Went left left' held held' (record { number = p.number; state = p.state; partial = t }))
    (sym e) went

-- ---- What faults leave

-- the text of the lines carried out so far
text_so_far : (p : Progress) (got text : List ℕ) (g : Advances start p got text) → Prints 1 empty g.front text Whole
text_so_far p got text g =
    subst (λ (ls : List (List ℕ)). Prints 1 empty ls text Whole) (append-nil g.front)
    (subst (λ (t : List ℕ). Prints 1 empty (g.front ++ []) t Whole) (append-nil text) (g.carry [] [] Whole whole))

abbrev pub AfterRead : Option (List ℕ) → Option (List ℕ) → Option (List ℕ) → Option (List ℕ) → Type 0
AfterRead left left' held held' = (got : List ℕ) × (text : List ℕ) × Consumes left left' got × Appends held held' text
    × IsTextOfWholeLines got text

pub read_leaves : (left left' left'' held held' : Option (List ℕ)) (p : Progress) → IsReady p
    → Went left left' held held' p → Keeps left' left'' → AfterRead left left'' held held'
read_leaves left left' left'' held held' p ready went k = (
  went.got,
  went.text,
  consumes_then_keeps left left' left'' went.got went.consumed k,
  went.appended,
  record {
    lines = went.advances.front;
    more = p.partial;
    split = went.advances.ends.same;
    unended =
        ready.unended;
    prints = text_so_far p went.got went.text went.advances;
  },
)

abbrev pub AfterRefusal : Option (List ℕ) → Option (List ℕ) → Option (List ℕ) → Option (List ℕ) → Type 0
AfterRefusal left left' held held' =
    (got : List ℕ) × (text : List ℕ) × Consumes left left' got × Appends held held' text × IsTextOfFirstLines got text

partly : (p : Progress) (got text bytes printed : List ℕ) (g : Advances start p got text)
    (h : AdvancesPartly p bytes printed) → Advances start h.new (got ++ h.done) (text ++ printed)
partly p got text bytes printed g h = advances_on start p h.new got h.done text printed g h.advances

first_lines : (p : Progress) (got text bytes printed : List ℕ) → Advances start p got text
    → AdvancesPartly p bytes printed → IsTextOfFirstLines (got ++ bytes) (text ++ printed)
first_lines p got text bytes printed g h =
    let both : Advances start h.new (got ++ h.done) (text ++ printed) = partly p got text bytes printed g h in
    record {
      lines = both.front;
      more = h.new.partial ++ h.left;
      split =
          ap (λ (t : List ℕ). got ++ t) h.split ∙ sym (append_assoc got h.done h.left)
          ∙ ap (λ (t : List ℕ). t ++ h.left) both.ends.same
          ∙ append_assoc (ended_lines both.front) h.new.partial h.left;
      prints = text_so_far h.new (got ++ h.done) (text ++ printed) both;
    }

pub refusal_leaves : (left left' left'' held held' held'' : Option (List ℕ)) (p : Progress)
    (bytes before after written : List ℕ) → Went left left' held held' p
    → Consumes left' left'' bytes → Appends held' held'' written → before ≡ [] → written ≡ after
    → LeadsPartly p bytes before after → AfterRefusal left left'' held held''
refusal_leaves left left' left'' held held' held'' p bytes before after written went c a e w l = (
  went.got ++ bytes,
  went.text ++ written,
  consumes_then_consumes left left' left'' went.got bytes went.consumed c,
  appends_then_appends held held' held'' went.text written went.appended a,
  first_lines p went.got went.text bytes written went.advances
      (subst (AdvancesPartly p bytes) (printed_is_written before after written l.printed e w l.put) l.advances),
)

-- ---- A front of the text

begins_so_far : (p : Progress) (got text : List ℕ) → Advances start p got text → (rest : List ℕ)
    → TextBegins (got ++ rest) text
begins_so_far p got text g rest =
    let later = some_text (lines_of (p.partial ++ rest)) p.number p.state in
    record {
      text = text ++ later.0;
      end = later.1;
      is_text = subst (λ (ls : List (List ℕ)). Prints 1 empty ls (text ++ later.0) later.1) (sym (g.ends.cut rest))
          (g.carry (lines_of (p.partial ++ rest)) later.0 later.1 later.2);
      rest = later.0;
      split = refl;
    }

begins_take : (script text written : List ℕ) → TextBegins script (text ++ written) → (k : ℕ)
    → TextBegins script (text ++ take k written)
begins_take script text written b k = record {
  text = b.text;
  end = b.end;
  is_text = b.is_text;
  rest = drop k written ++ b.rest;
  split =
      b.split ∙ ap (λ (t : List ℕ). (text ++ t) ++ b.rest) (sym (take-append-drop k written))
      ∙ ap (λ (t : List ℕ). t ++ b.rest) (sym (append_assoc text (take k written) (drop k written)))
      ∙ append_assoc (text ++ take k written) (drop k written) b.rest;
}

begins_partly : (p : Progress) (got text bytes printed : List ℕ) → Advances start p got text
    → AdvancesPartly p bytes printed → (rest : List ℕ) → TextBegins (got ++ (bytes ++ rest)) (text ++ printed)
begins_partly p got text bytes printed g h rest =
    subst (λ (s : List ℕ). TextBegins s (text ++ printed))
    (append_assoc got h.done (h.left ++ rest) ∙ ap (λ (t : List ℕ). got ++ t) (sym (append_assoc h.done h.left rest))
    ∙ ap (λ (t : List ℕ). got ++ (t ++ rest)) (sym h.split))
    (begins_so_far h.new (got ++ h.done) (text ++ printed) (partly p got text bytes printed g h) (h.left ++ rest))

-- whatever the bytes came to
advanced_begins : {E : Type 0} (advanced : Result (Option End) E) (p p' : Progress)
    (got text bytes before after : List ℕ) → before ≡ [] → Advances start p got text
    → IfOk advanced (λ ended. IfNone ended (LeadsOn p p' bytes before after))
    → IfOk advanced (λ ended. IfSome ended (LeadsToEnd p bytes before after))
    → OnErr advanced (LeadsPartly p bytes before after)
    → (rest : List ℕ) → (bytes ≡ [] → rest ≡ []) → TextBegins (got ++ (bytes ++ rest)) (text ++ after)
advanced_begins (Ok None) p p' got text bytes before after e g goes ends err rest none =
    let l : LeadsOn p p' bytes before after = goes in
    let on : Advances p p' bytes after =
    subst (Advances p p' bytes) (printed_is_written before after after l.printed e refl l.put) l.advances in
    subst (λ (s : List ℕ). TextBegins s (text ++ after)) (append_assoc got bytes rest)
    (begins_so_far p' (got ++ bytes) (text ++ after) (advances_on start p p' got bytes text after g on) rest)
advanced_begins (Ok (Some end)) p p' got text bytes before after e g goes ends err rest none =
    let l : LeadsToEnd p bytes before after end = ends in
    let prints : Prints p.number p.state (lines_of (p.partial ++ (bytes ++ rest))) after end =
    subst (λ (t : List ℕ). Prints p.number p.state (lines_of (p.partial ++ (bytes ++ rest))) t end)
    (printed_is_written before after after l.printed e refl l.put) (l.prints rest none) in
    record {
      text = text ++ after;
      end = end;
      is_text = text_at_end p got text bytes after rest end g prints;
      rest =
          [];
      split = sym (append-nil (text ++ after));
    }
advanced_begins (Err x) p p' got text bytes before after e g goes ends err rest none =
    let l : LeadsPartly p bytes before after = err in
    begins_partly p got text bytes after g (subst (AdvancesPartly p bytes)
    (printed_is_written before after after l.printed e refl l.put) l.advances) rest

abbrev pub AfterWrite : Option (List ℕ) → Option (List ℕ) → Option (List ℕ) → Type 0
AfterWrite left held held' = (text : List ℕ) × Appends held held' text × IfSome left (λ script. TextBegins script text)

pub write_leaves : {E : Type 0} (advanced : Result (Option End) E)
    (left left' left'' held held' held'' : Option (List ℕ)) (p p' : Progress) (bytes before after written : List ℕ)
    → Went left left' held held' p
    → Consumes left' left'' bytes → AppendsFront held' held'' written → before ≡ [] → written ≡ after
    → (bytes ≡ [] → IsAtEnd left'')
    → IfOk advanced (λ ended. IfNone ended (LeadsOn p p' bytes before after))
    → IfOk advanced (λ ended. IfSome ended (LeadsToEnd p bytes before after))
    → OnErr advanced (LeadsPartly p bytes before after)
    → AfterWrite left held held''
write_leaves advanced left left' left'' held held' held'' p p' bytes before after written went c wrote e w at_end goes
    ends err = (
      went.text ++ take wrote.0 written,
      appends_then_appends held held' held'' went.text (take wrote.0 written) went.appended wrote.2,
      of_script (λ (script : List ℕ). TextBegins script (went.text ++ take wrote.0 written)) left left' left'' went.got
          bytes went.consumed c at_end
          (λ rest none. begins_take (went.got ++ (bytes ++ rest)) went.text written
          (subst (λ (t : List ℕ). TextBegins (went.got ++ (bytes ++ rest)) (went.text ++ t)) (sym w)
          (advanced_begins advanced p p' went.got went.text bytes before after e went.advances goes ends err rest none))
          wrote.0),
    )

-- before anything was read
pub first_flush_leaves : (left held held' : Option (List ℕ)) → Keeps held held' → AfterWrite left held held'
first_flush_leaves left held held' k = ([], appends_then_keeps held held held' [] (appends_nothing held) k, begins left)
  where
    begins : (l : Option (List ℕ)) → IfSome l (λ script. TextBegins script [])
    begins None = tt
    begins (Some script) = begins_so_far start [] [] (advances_itself start) script

-- ---- Two steps of a match

pub gone_on : {E : Type 0} (r : Result (Option End) E) (o : Option End) (P : Type 0) → r ≡ Ok o → o ≡ None
    → IfOk r (λ x. IfNone x P) → P
gone_on (Ok None) o P e n h = h
gone_on (Ok (Some k)) o P e n h = absurd (cc)
gone_on (Err x) o P e n h = absurd (cc)

pub has_ended : {E : Type 0} (r : Result (Option End) E) (o : Option End) (end : End) (P : End → Type 0) → r ≡ Ok o
    → o ≡ Some end → IfOk r (λ x. IfSome x P) → P end
has_ended (Ok None) o end P e n h = absurd (cc)
has_ended (Ok (Some k)) o end P e n h = let same : k ≡ end = cc in subst P same h
has_ended (Err x) o end P e n h = absurd (cc)
