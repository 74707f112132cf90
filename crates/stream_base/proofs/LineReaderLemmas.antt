-- What a reader of lines finds, byte by byte; and what a caller makes of it.
use Rattle.std.proofs.Common.{◌≡◌, ◌≢◌, ◌∙◌, sym, ap, refl, subst, ℕ, ◌+◌, ◌-◌, ◌<◌, ◌≤◌, suc, List, [], ◌∷◌, ◌++◌}
use Rattle.std.proofs.Common.{length, get_or, take, drop, arith, append_assoc, append-nil, length-append}
use Rattle.std.specs.Prelude.{◌==◌, true, false}
use Rattle.std.proofs.lemmas.List.{drop_more}
use Rattle.std.proofs.lemmas.Bool.Decides.{nat_tests}
use Rattle.stream_base.specs.Lines.{EndsLines, Lacks, line_feed}
use Rattle.stream_base.specs.LineReader.{Reading, TakesPart, Finds}
use Rattle.stream_base.specs.declared.line_reader.Found.TheVariants.{Line, TooLong, Unended}
use Rattle.stream_base.proofs.LineLemmas.{HasLongFirstLine, ends_line, ends_part, ends_then, lacks-append, lacks-push}
use Rattle.stream_base.proofs.LineLemmas.{long_first_line}

-- the bytes of a chunk from this place on
abbrev pub ahead_in : List ℕ → ℕ → ℕ → List ℕ
ahead_in chunk at end = take (end - at) (drop at chunk)

pub ahead_is_none : (chunk : List ℕ) (at end : ℕ) → end ≤ at → ahead_in chunk at end ≡ []
ahead_is_none chunk at end e = ap (λ (n : ℕ). take n (drop at chunk)) (nothing at end e)
  where
    nothing : (at end : ℕ) → end ≤ at → end - at ≡ 0
    nothing at end e = omega arith

pub ahead_begins : (chunk : List ℕ) (at end : ℕ) → at < end → end ≤ length chunk
    → ahead_in chunk at end ≡ get_or chunk at 0 ∷ ahead_in chunk (at + 1) end
ahead_begins chunk at end h fits =
    let some : end - at ≡ suc (end - (at + 1)) = omega arith in
    let within : at < length chunk = omega arith in
    ap (λ (n : ℕ). take n (drop at chunk)) some ∙ ap (λ (t : List ℕ). take (suc (end - (at + 1))) t)
    (drop_more chunk at 0 within)

-- a part of the bytes ahead went to the line, which holds this now; these are left
pub record Went (old : Reading) (held left : List ℕ) : Type 0 where
  pub part : List ℕ
  pub unbroken : Lacks line_feed part
  pub cut : old.ahead ≡ part ++ left
  pub is : held ≡ old.held ++ part

pub went_nowhere : (old : Reading) → Went old old.held old.ahead
went_nowhere old = record { part = []; unbroken = tt; cut = refl; is = sym (append-nil old.held) }

pub went_on : (old : Reading) (held held' left : List ℕ) (byte : ℕ) → Went old held (byte ∷ left) → byte ≢ line_feed
    → held' ≡ held ++ byte ∷ [] → Went old held' left
went_on old held held' left byte w other e = record {
  part = w.part ++ byte ∷ [];
  unbroken = lacks-push line_feed byte w.part w.unbroken other;
  cut = w.cut ∙ sym (append_assoc w.part (byte ∷ []) left);
  is = e ∙ ap (λ (t : List ℕ). t ++ byte ∷ []) w.is ∙ append_assoc old.held w.part (byte ∷ []);
}

-- ---- What is found

-- the line is whole
pub finds_line : (limit : ℕ) (old new : Reading) (byte : ℕ) → Went old new.held (byte ∷ new.ahead)
    → byte ≡ line_feed → Finds limit Line old new
finds_line limit old new byte w feed = (
  w.part,
  record { unbroken = w.unbroken; cut = w.cut ∙ ap (λ (b : ℕ). w.part ++ b ∷ new.ahead) feed; held = w.is },
)

-- the line is too long
pub finds_too_long : (limit : ℕ) (old new : Reading) (byte : ℕ) (rest : List ℕ)
    → Went old new.held new.ahead → new.ahead ≡ byte ∷ rest → byte ≢ line_feed
    → length new.held ≡ limit → Finds limit TooLong old new
finds_too_long limit old new byte rest w begins other full = (
  w.part,
  record { unbroken = w.unbroken; cut = w.cut; held = w.is },
  full,
  byte,
  rest,
  begins,
  other,
)

-- no line feed has come
pub finds_unended : (limit : ℕ) (old new : Reading) → Went old new.held new.ahead → new.ahead ≡ []
    → Finds limit Unended old new
finds_unended limit old new w none =
    let all : old.ahead ≡ w.part = w.cut ∙ ap (λ (t : List ℕ). w.part ++ t) none ∙ append-nil w.part in (
      record {
        unbroken = subst (Lacks line_feed) (sym all) w.unbroken;
        cut = sym (append-nil old.ahead);
        held = w.is ∙ ap (λ (t : List ℕ). old.held ++ t) (sym all);
      },
      none,
    )

-- the line and what is ahead, as they are
pub went_nowhere_as : (old now : Reading) → now ≡ old → Went old now.held now.ahead
went_nowhere_as old now e = subst (λ (r : Reading). Went r now.held now.ahead) e (went_nowhere now)

pub same_number : (a b : ℕ) → (a == b) ≡ true → a ≡ b
same_number a b e = grind (arith, nat_tests)

pub lower_number : (a b : ℕ) → (a == b) ≡ false → a ≤ b → a < b
lower_number a b e h = grind (arith, nat_tests)

-- ---- What a caller makes of it

-- a line was found: these bytes ahead ended it
pub record LineEnds (old new : Reading) : Type 0 where
  pub bytes : List ℕ
  pub cut : old.ahead ≡ bytes ++ new.ahead
  pub some : 0 < length bytes
  pub counted : length old.held + length bytes ≡ length new.held + 1
  pub unended : Lacks line_feed new.held
  pub ends : EndsLines old.held bytes (new.held ∷ []) []

pub line_found : (limit : ℕ) (old new : Reading) → Lacks line_feed old.held → Finds limit Line old new
    → LineEnds old new
line_found limit old new lacks found =
    let part : List ℕ = found.0 in
    let takes : TakesPart old new part (line_feed ∷ new.ahead) = found.1 in
    let unended : Lacks line_feed new.held =
    subst (Lacks line_feed) (sym takes.held) (lacks-append line_feed old.held part lacks takes.unbroken) in
    record {
      bytes = part ++ line_feed ∷ [];
      cut = takes.cut ∙ sym (append_assoc part (line_feed ∷ []) new.ahead);
      some = omega (arith, length-append part (line_feed ∷ []));
      counted = omega (arith, length-append part (line_feed ∷ []), ap length takes.held, length-append old.held part);
      unended = unended;
      ends =
          ends_then old.held new.held [] part (line_feed ∷ []) [] (new.held ∷ [])
          (ends_part old.held new.held part takes.held) (ends_line new.held line_feed unended refl);
    }

-- no line feed came: all bytes ahead went to the line
pub record LineGrows (old new : Reading) : Type 0 where
  pub none : new.ahead ≡ []
  pub counted : length new.held ≡ length old.held + length old.ahead
  pub unended : Lacks line_feed new.held
  pub ends : EndsLines old.held old.ahead [] new.held

pub line_grown : (limit : ℕ) (old new : Reading) → Lacks line_feed old.held → Finds limit Unended old new
    → LineGrows old new
line_grown limit old new lacks found =
    let takes : TakesPart old new old.ahead [] = found.0 in
    record {
      none = found.1;
      counted = omega (arith, ap length takes.held, length-append old.held old.ahead);
      unended =
          subst (Lacks line_feed) (sym takes.held) (lacks-append line_feed old.held old.ahead lacks takes.unbroken);
      ends = ends_part old.held new.held old.ahead takes.held;
    }

-- a line is too long, whatever follows what was read
pub line_is_long : (limit : ℕ) (old new : Reading) → Lacks line_feed old.held → Finds limit TooLong old new
    → (more : List ℕ) → HasLongFirstLine limit (old.held ++ (old.ahead ++ more))
line_is_long limit old new lacks (part, takes, full, byte, rest, begins, other) more =
    let unended : Lacks line_feed new.held =
    subst (Lacks line_feed) (sym takes.held) (lacks-append line_feed old.held part lacks takes.unbroken) in
    let text : new.held ++ (byte ∷ [] ++ (rest ++ more)) ≡ old.held ++ (old.ahead ++ more) =
    ap (λ (t : List ℕ). t ++ (byte ∷ (rest ++ more))) takes.held
    ∙ append_assoc old.held part (byte ∷ (rest ++ more))
    ∙ ap (λ (t : List ℕ). old.held ++ t) (sym (append_assoc part (byte ∷ rest) more))
    ∙ ap (λ (t : List ℕ). old.held ++ ((part ++ t) ++ more)) (sym begins)
    ∙ ap (λ (t : List ℕ). old.held ++ (t ++ more)) (sym takes.cut) in
    subst (HasLongFirstLine limit) text (long_first_line limit new.held byte (rest ++ more) unended other full)

-- a line that is too long has no line feed so far
pub long_unended : (limit : ℕ) (old new : Reading) → Lacks line_feed old.held → Finds limit TooLong old new
    → Lacks line_feed new.held
long_unended limit old new lacks (part, takes, full, byte, rest, begins, other) =
    subst (Lacks line_feed) (sym takes.held) (lacks-append line_feed old.held part lacks takes.unbroken)
