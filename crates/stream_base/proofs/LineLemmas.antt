-- What a decoder that goes over a text byte by byte needs to know of its lines.
use Rattle.std.proofs.Common.{inl, inr, append-nil, ◌≡◌, ◌≢◌, ◌∙◌, sym, ap, refl, subst, ℕ, ◌+◌, ◌<◌, List, [], ◌∷◌}
use Rattle.std.proofs.Common.{◌++◌, length, get_or, take, Bool, true, false, arith, append_assoc, length-append}
use Rattle.std.specs.Prelude.{All, ◌==◌, if◌then◌else◌}
use Rattle.std.proofs.lemmas.List.{take_more}
use Rattle.std.proofs.lemmas.Bool.Decides.{nat_tests}
use Rattle.std.proofs.lemmas.Bool.{cases_eq}
use Rattle.std.proofs.lemmas.List.Elements.{All-cons, All-head, All-nil, All-tail}
use Rattle.stream_base.specs.Laws.{IsOfLines}
use Rattle.stream_base.specs.Lines.{EndsLines, Lacks, ended_lines, lines_of, onto_first_line}

-- ---- Texts that lack a byte

pub lacks-append : (b : ℕ) (xs ys : List ℕ) → Lacks b xs → Lacks b ys → Lacks b (xs ++ ys)
lacks-append b [] ys h k = k
lacks-append b (x ∷ xs) ys h k = (h.0, lacks-append b xs ys h.1 k)

-- one more byte that is another
pub lacks-push : (b c : ℕ) (xs : List ℕ) → Lacks b xs → c ≢ b → Lacks b (xs ++ c ∷ [])
lacks-push b c xs h other = lacks-append b xs (c ∷ []) h (other, tt)

-- one more byte of a text that is another
pub lacks-take_more : (b : ℕ) (xs : List ℕ) (i : ℕ) → i < length xs → Lacks b (take i xs) → get_or xs i 0 ≢ b
    → Lacks b (take (i + 1) xs)
lacks-take_more b xs i h l other =
    subst (Lacks b) (sym (take_more xs i 0 h)) (lacks-push b (get_or xs i 0) (take i xs) l other)

-- a text that has the byte doesn't lack it
pub lacks_not : (b : ℕ) (xs ys : List ℕ) → Lacks b (xs ++ b ∷ ys) → ⊥
lacks_not b [] ys l = l.0 refl
lacks_not b (x ∷ xs) ys l = lacks_not b xs ys l.1

-- a text is cut at the first such byte in one way
pub cut_once : (b : ℕ) (x y x' y' : List ℕ) → Lacks b x → Lacks b x' → x ++ b ∷ y ≡ x' ++ b ∷ y' → (x ≡ x') × (y ≡ y')
cut_once b [] y [] y' l l' e = (refl, cc)
cut_once b [] y (c ∷ x') y' l l' e = let here : c ≡ b = cc in absurd (l'.0 here)
cut_once b (c ∷ x) y [] y' l l' e = let here : c ≡ b = cc in absurd (l.0 here)
cut_once b (c ∷ x) y (c' ∷ x') y' l l' e =
    let head : c ≡ c' = cc in
    let tail : x ++ b ∷ y ≡ x' ++ b ∷ y' = cc in
    let rest = cut_once b x y x' y' l.1 l'.1 tail in
    let front : x ≡ x' = rest.0 in
    (cc, rest.1)

-- ---- The first line of a text

chosen : {A : Type 0} (t : Bool) (x y : A) → t ≡ false → (if t then x else y) ≡ y
chosen true x y e = absurd (cc)
chosen false x y e = refl

is_other : (c : ℕ) → c ≢ 10 → (c == 10) ≡ false
is_other c h = grind (arith, nat_tests)

-- a byte that is no line feed goes onto the first line
pub lines_of-cons : (c : ℕ) (text : List ℕ) → c ≢ 10 → lines_of (c ∷ text) ≡ onto_first_line c (lines_of text)
lines_of-cons c text h = chosen (c == 10) ([] ∷ lines_of text) (onto_first_line c (lines_of text)) (is_other c h)

-- a line, its line feed and more
pub lines_of-ended_line : (line more : List ℕ) → Lacks 10 line → lines_of (line ++ 10 ∷ more) ≡ line ∷ lines_of more
lines_of-ended_line [] more l = refl
lines_of-ended_line (c ∷ line) more l = lines_of-cons c (line ++ 10 ∷ more) l.0
    ∙ ap (onto_first_line c) (lines_of-ended_line line more l.1)

-- a last line without its line feed
pub lines_of-last_line : (line : List ℕ) → Lacks 10 line → 0 < length line → lines_of line ≡ line ∷ []
lines_of-last_line [] l some = absurd (omega arith)
lines_of-last_line (c ∷ []) l some = lines_of-cons c [] l.0
lines_of-last_line (c ∷ d ∷ line) l some = lines_of-cons c (d ∷ line) l.0
    ∙ ap (onto_first_line c) (lines_of-last_line (d ∷ line) l.1 (omega arith))

-- no byte, no line
pub lines_of-empty : (text : List ℕ) → length text ≡ 0 → lines_of text ≡ []
lines_of-empty [] e = refl
lines_of-empty (c ∷ text) e = absurd (omega arith)

onto_some : (c : ℕ) (ls : List (List ℕ)) → (more : List ℕ) × (lines : List (List ℕ))
    × (onto_first_line c ls ≡ (c ∷ more) ∷ lines)
onto_some c [] = ([], [], refl)
onto_some c (l ∷ ls) = (l, ls, refl)

-- a text that begins so has a first line that begins so, whatever follows
pub record BeginsFirstLine (front text : List ℕ) : Type 0 where
  pub more : List ℕ
  pub lines : List (List ℕ)
  pub are : lines_of text ≡ (front ++ more) ∷ lines

pub first_line_begins : (front rest : List ℕ) → Lacks 10 front → 0 < length front
    → BeginsFirstLine front (front ++ rest)
first_line_begins [] rest l some = absurd (omega arith)
first_line_begins (c ∷ []) rest l some = let o = onto_some c (lines_of rest) in
    record { more = o.0; lines = o.1; are = lines_of-cons c rest l.0 ∙ o.2 }
first_line_begins (c ∷ d ∷ front) rest l some =
    let r = first_line_begins (d ∷ front) rest l.1 (omega arith) in
    record {
      more = r.more;
      lines = r.lines;
      are = lines_of-cons c (d ∷ front ++ rest) l.0
          ∙ ap (onto_first_line c) r.are;
    }

-- a text with a first line that is longer than the limit
pub record HasLongFirstLine (limit : ℕ) (text : List ℕ) : Type 0 where
  pub line : List ℕ
  pub lines : List (List ℕ)
  pub long : limit < length line
  pub are : lines_of text ≡ line ∷ lines

-- a line of as many bytes as the limit, and one more that is no line feed: too long, whatever follows
pub long_first_line : (limit : ℕ) (kept : List ℕ) (b : ℕ) (rest : List ℕ) → Lacks 10 kept → b ≢ 10 → length kept ≡ limit
    → HasLongFirstLine limit (kept ++ (b ∷ [] ++ rest))
long_first_line limit kept b rest l other full =
    let longer : length (kept ++ b ∷ []) ≡ limit + 1 = omega (arith, length-append kept (b ∷ [])) in
    let r = first_line_begins (kept ++ b ∷ []) rest (lacks-push 10 b kept l other) (omega arith) in
    record {
      line = (kept ++ b ∷ []) ++ r.more;
      lines = r.lines;
      long = omega (arith, length-append (kept ++ b ∷ []) r.more);
      are =
          subst (λ (t : List ℕ). lines_of t ≡ ((kept ++ b ∷ []) ++ r.more) ∷ r.lines)
          (append_assoc kept (b ∷ []) rest) r.are;
    }

-- a text with a first line
pub record HasFirstLine (text : List ℕ) : Type 0 where
  pub line : List ℕ
  pub lines : List (List ℕ)
  pub are : lines_of text ≡ line ∷ lines

-- a text of one byte at least has a first line
pub some_first_line : (b : ℕ) (text : List ℕ) → HasFirstLine (b ∷ text)
some_first_line b text = by_test (b == 10) (lines_of text) refl
  where
    by_test : (t : Bool) (ls : List (List ℕ)) → lines_of (b ∷ text) ≡ (if t then [] ∷ ls else onto_first_line b ls)
        → HasFirstLine (b ∷ text)
    by_test true ls e = record { line = []; lines = ls; are = e }
    by_test false ls e = let o = onto_some b ls in record { line = b ∷ o.0; lines = o.1; are = e ∙ o.2 }

-- with some byte after a front it has a first line, whatever follows
pub some_first_line_after : (front : List ℕ) (b : ℕ) (rest : List ℕ) → HasFirstLine (front ++ b ∷ rest)
some_first_line_after [] b rest = some_first_line b rest
some_first_line_after (c ∷ front) b rest = some_first_line c (front ++ b ∷ rest)

-- ---- Many lines

pub ended_lines-append : (f g : List (List ℕ)) → ended_lines (f ++ g) ≡ ended_lines f ++ ended_lines g
ended_lines-append [] g = refl
ended_lines-append (line ∷ f) g = ap (λ (t : List ℕ). line ++ 10 ∷ t) (ended_lines-append f g)
    ∙ sym (append_assoc line (10 ∷ ended_lines f) (ended_lines g))

-- ---- Bytes that end lines

pub ends_none : (kept : List ℕ) → EndsLines kept [] [] kept
ends_none kept = record { same = append-nil kept; cut = λ rest. refl }

-- more of a line
pub ends_part : (kept kept' part : List ℕ) → kept' ≡ kept ++ part → EndsLines kept part [] kept'
ends_part kept kept' part e = record {
  same = sym e;
  cut = λ rest. ap lines_of (sym (append_assoc kept part rest) ∙ ap (λ (k : List ℕ). k ++ rest) (sym e));
}

-- a line feed
pub ends_line : (kept : List ℕ) (b : ℕ) → Lacks 10 kept → b ≡ 10 → EndsLines kept (b ∷ []) (kept ∷ []) []
ends_line kept b l e =
    subst (λ (c : ℕ). EndsLines kept (c ∷ []) (kept ∷ []) []) (sym e)
    (record { same = sym (append-nil (kept ++ 10 ∷ [])); cut = λ rest. lines_of-ended_line kept rest l })

-- bytes after bytes
pub ends_then : (a b c : List ℕ) (x y : List ℕ) (f g : List (List ℕ)) → EndsLines a x f b → EndsLines b y g c
    → EndsLines a (x ++ y) (f ++ g) c
ends_then a b c x y f g h k = record {
  same =
      sym (append_assoc a x y) ∙ ap (λ (t : List ℕ). t ++ y) h.same ∙ append_assoc (ended_lines f) b y
      ∙ ap (λ (t : List ℕ). ended_lines f ++ t) k.same
      ∙ sym (append_assoc (ended_lines f) (ended_lines g) c)
      ∙ ap (λ (t : List ℕ). t ++ c) (sym (ended_lines-append f g));
  cut = λ rest.
      ap (λ (t : List ℕ). lines_of (a ++ t)) (append_assoc x y rest) ∙ h.cut (y ++ rest)
      ∙ ap (λ (t : List (List ℕ)). f ++ t) (k.cut rest)
      ∙ sym (append_assoc f g (lines_of (c ++ rest)));
}

-- the lines of all the bytes so far
pub lines_so_far : (kept bytes : List ℕ) (lines : List (List ℕ)) → EndsLines [] bytes lines kept
    → lines_of bytes ≡ lines ++ lines_of kept
lines_so_far kept bytes lines h = ap lines_of (sym (append-nil bytes)) ∙ h.cut []
    ∙ ap (λ (t : List ℕ). lines ++ lines_of t) (append-nil kept)

-- ---- Which lines a text has

pub lines_of-ended_lines : (lines : List (List ℕ)) (rest : List ℕ) → All (Lacks 10) lines
    → lines_of (ended_lines lines ++ rest) ≡ lines ++ lines_of rest
lines_of-ended_lines [] rest a = refl
lines_of-ended_lines (line ∷ lines) rest a =
    ap lines_of (append_assoc line (10 ∷ ended_lines lines) rest)
    ∙ lines_of-ended_line line (ended_lines lines ++ rest) (All-head (Lacks 10) line lines a)
    ∙ ap (λ (t : List (List ℕ)). line ∷ t) (lines_of-ended_lines lines rest (All-tail (Lacks 10) line lines a))

feed_is_of_lines : (text : List ℕ) → IsOfLines text → IsOfLines (10 ∷ text)
feed_is_of_lines text r = record {
  lines = [] ∷ r.lines;
  last = r.last;
  unbroken = All-cons (Lacks 10) [] r.lines tt r.unbroken;
  unended = r.unended;
  is = ap (λ (t : List ℕ). 10 ∷ t) r.is;
}

byte_is_of_lines : (b : ℕ) (text : List ℕ) → b ≢ 10 → (lines : List (List ℕ)) (last : List ℕ) → All (Lacks 10) lines
    → Lacks 10 last → text ≡ ended_lines lines ++ last → IsOfLines (b ∷ text)
byte_is_of_lines b text other [] last a l e =
    record { lines = []; last = b ∷ last; unbroken = a; unended = (other, l); is = ap (λ (t : List ℕ). b ∷ t) e }
byte_is_of_lines b text other (line ∷ lines) last a l e = record {
  lines = (b ∷ line) ∷ lines;
  last = last;
  unbroken =
      All-cons (Lacks 10) (b ∷ line) lines (other, All-head (Lacks 10) line lines a) (All-tail (Lacks 10) line lines a);
  unended = l;
  is = ap (λ (t : List ℕ). b ∷ t) e;
}

pub is_of_lines : (text : List ℕ) → IsOfLines text
is_of_lines [] = record { lines = []; last = []; unbroken = All-nil (Lacks 10); unended = tt; is = refl }
is_of_lines (b ∷ text) =
    let r = is_of_lines text in
    elim (cases_eq b 10) [
      | inl e ↦ subst (λ (c : ℕ). IsOfLines (c ∷ text)) (sym e) (feed_is_of_lines text r)
      | inr other ↦ byte_is_of_lines b text other r.lines r.last r.unbroken r.unended r.is
    ]
