-- What looks for a line come to together, one after the other.
use Rattle.std.proofs.Common.{◌≡◌, ◌≢◌, ◌++◌, ◌∷◌, ◌∙◌, ℕ, List, [], ap, sym, append_assoc, append-nil, subst}
use Rattle.std.proofs.Common.{Option, Some, None, Result, Ok}
use Rattle.stream_base.specs.LineReader.{Reading, Finds, TakesPart}
use Rattle.stream_base.specs.Lines.{line_feed}
use Rattle.stream_base.specs.declared.line_reader.Found.{Found}
use Rattle.stream_base.specs.declared.line_reader.Found.TheVariants as found
use Rattle.stream_base.proofs.LineLemmas.{lacks-append}
use Rattle.std.specs.Io.KnownBytes.{Consumes, IsAtEnd}
use Rattle.std.specs.declared.io.Error.{Error}
use Rattle.std.proofs.KnownBytes.{Consumes-nil, Consumes-trans}
use Rattle.net.specs.Lines.{with_more, found_of, reading_of, begun, Hears, IsPending, HasLooked}
use Rattle.net.specs.declared.lines.Heard.TheVariants as heard
use Rattle.net.specs.declared.lines.Heard.{Heard}
use Rattle.net.specs.declared.lines.Lines.{Lines}

-- no byte more is the same reading
pub with_none : (reading : Reading) → with_more reading [] ≡ reading
with_none reading = ap (λ (bytes : List ℕ). record { held = reading.held; ahead = bytes }) (append-nil reading.ahead)

-- bytes that came one after the other came together
pub with_both : (reading : Reading) (first second : List ℕ)
    → with_more (with_more reading first) second ≡ with_more reading (first ++ second)
with_both reading first second =
    ap (λ (bytes : List ℕ). record { held = reading.held; ahead = bytes })
    (append_assoc reading.ahead first second)

-- a part that goes to the line behind all that stood ahead
takes_on : (old mid new : Reading) (came part left : List ℕ)
    → TakesPart old mid old.ahead [] → mid.ahead ≡ [] → TakesPart (with_more mid came) new part left
    → TakesPart (with_more old came) new (old.ahead ++ part) left
takes_on old mid new came part left before empty after =
    let cut : came ≡ part ++ left = sym (ap (λ (l : List ℕ). l ++ came) empty) ∙ after.cut in
    record {
      unbroken = lacks-append line_feed old.ahead part before.unbroken after.unbroken;
      cut = ap (λ (l : List ℕ). old.ahead ++ l) cut ∙ sym (append_assoc old.ahead part left);
      held =
          after.held ∙ ap (λ (l : List ℕ). l ++ part) before.held
          ∙ append_assoc old.held old.ahead part;
    }

-- what is found behind bytes in which was no line feed is found in all of them
pub finds_on : (limit : ℕ) (what : Found) (old mid new : Reading) (came : List ℕ)
    → Finds limit found.Unended old mid → Finds limit what (with_more mid came) new
    → Finds limit what (with_more old came) new
finds_on limit found.Line old mid new came before after =
    (old.ahead ++ after.0, takes_on old mid new came after.0 (line_feed ∷ new.ahead) before.0 before.1 after.1)
finds_on limit found.TooLong old mid new came before after = (
  old.ahead ++ after.0,
  takes_on old mid new came after.0 new.ahead before.0 before.1 after.1,
  after.2,
  after.3,
  after.4,
  after.5,
  after.6,
)
finds_on limit found.Unended old mid new came before after =
    let same : mid.ahead ++ came ≡ came = ap (λ (l : List ℕ). l ++ came) before.1 in (
      subst (λ (l : List ℕ). TakesPart (with_more old came) new (old.ahead ++ l) []) same
          (takes_on old mid new came (mid.ahead ++ came) [] before.0 before.1 after.0),
      after.1,
    )

-- the answer of who heard this
abbrev pub answer_of : Heard → Option (Result Heard Error)
answer_of said = Some (Ok said)

-- who heard a line, or too long a one, didn't hear the end
pub not_the_end : {T : Type 0} (said : Heard) → said ≢ heard.End → answer_of said ≡ answer_of heard.End → T
not_the_end said differs same =
    let is : said ≡ heard.End = cc in
    absurd (differs is)

-- what was heard was the end
pub was_the_end : (said : Heard) → answer_of said ≡ answer_of heard.End → Some said ≡ Some heard.End
was_the_end said same =
    let is : said ≡ heard.End = cc in
    ap (λ (h : Heard). Some h) is

-- and nothing that was heard wasn't
pub none_is_no_end : {T : Type 0} → None ≡ answer_of heard.End → T
none_is_no_end same = absurd (cc)

module _ {LIMIT : ℕ} where
  -- what is heard in bytes that came once all was held is heard in all of them
  pub hears_on : (heard : Heard) (old : Reading) (mid new : Lines LIMIT) (came : List ℕ)
      → IsPending old mid → Hears heard (with_more (begun mid) came) new
      → Hears heard (with_more old came) new
  hears_on heard old mid new came before after = record {
    found =
        finds_on LIMIT (found_of heard) old (reading_of mid) (reading_of new) came before.found
        (subst (λ (r : Reading). Finds LIMIT (found_of heard) (with_more r came) (reading_of new)) before.next
        after.found);
    next = after.next;
  }

  -- and where none is, all of them are held
  pub pends_on : (old : Reading) (mid new : Lines LIMIT) (came : List ℕ)
      → IsPending old mid → IsPending (with_more (begun mid) came) new → IsPending (with_more old came) new
  pends_on old mid new came before after = record {
    found =
        finds_on LIMIT found.Unended old (reading_of mid) (reading_of new) came before.found
        (subst (λ (r : Reading). Finds LIMIT found.Unended (with_more r came) (reading_of new)) before.next
        after.found);
    next = after.next;
  }

  -- what was read before is heard without a read
  pub heard_at_once : (said : Heard) (old new : Lines LIMIT) (source : Option (List ℕ))
      → said ≢ heard.End → Hears said (begun old) new → HasLooked (Some (Ok said)) old new source source
  heard_at_once said old new source differs before = record {
    came = [];
    read = Consumes-nil source;
    answered = subst (λ (r : Reading). Hears said r new) (sym (with_none (begun old))) before;
    end = not_the_end said differs;
  }

  -- what is heard in bytes that came once all was held
  pub heard_in : (said : Heard) (old mid new : Lines LIMIT) (before after : Option (List ℕ)) (came : List ℕ)
      → IsPending (begun old) mid → Hears said (with_more (begun mid) came) new → Consumes before after came
      → (Some said ≡ Some heard.End → IsAtEnd after) → HasLooked (Some (Ok said)) old new before after
  heard_in said old mid new before after came held found read end = record {
    came = came;
    read = read;
    answered = hears_on said (begun old) mid new came held found;
    end = λ same. end (was_the_end said same);
  }

  -- bytes that came once all was held, without a line feed
  pub pends_in : (old mid new : Lines LIMIT) (before after : Option (List ℕ)) (came : List ℕ)
      → IsPending (begun old) mid → IsPending (with_more (begun mid) came) new → Consumes before after came
      → HasLooked None old new before after
  pends_in old mid new before after came held found read = record {
    came = came;
    read = read;
    answered = pends_on (begun old) mid new came held found;
    end = none_is_no_end;
  }

  -- what so many reads gave is held
  abbrev pub HoldsAll : Lines LIMIT → Lines LIMIT → Option (List ℕ) → Option (List ℕ) → Type 0
  HoldsAll old mid before source =
      (came : List ℕ) × Consumes before source came × IsPending (with_more (begun old) came) mid

  -- what is heard in what one more read gave
  pub read_hears : (said : Heard) (old mid new : Lines LIMIT) (before source after : Option (List ℕ))
      (gave : List ℕ) → HoldsAll old mid before source → Hears said (with_more (begun mid) gave) new
      → Consumes source after gave → (Some said ≡ Some heard.End → IsAtEnd after)
      → HasLooked (Some (Ok said)) old new before after
  read_hears said old mid new before source after gave held found read end = record {
    came = held.0 ++ gave;
    read = Consumes-trans before source after held.0 gave held.1 read;
    answered =
        subst (λ (r : Reading). Hears said r new) (with_both (begun old) held.0 gave)
        (hears_on said (with_more (begun old) held.0) mid new gave held.2 found);
    end = λ same. end (was_the_end said same);
  }

  -- and where nothing is, all is held
  pub read_pends : (old mid new : Lines LIMIT) (before source after : Option (List ℕ)) (gave : List ℕ)
      → HoldsAll old mid before source → IsPending (with_more (begun mid) gave) new
      → Consumes source after gave → HoldsAll old new before after
  read_pends old mid new before source after gave held found read = (
    held.0 ++ gave,
    Consumes-trans before source after held.0 gave held.1 read,
    subst (λ (r : Reading). IsPending r new) (with_both (begun old) held.0 gave)
        (pends_on (with_more (begun old) held.0) mid new gave held.2 found),
  )
