-- Reading a text from the left: tests, parts, and where a byte stands first.
use Rattle.std.proofs.Common.{◌≡◌, ◌≢◌, ◌∙◌, sym, ap, refl, subst, ℕ, ◌+◌, ◌≤◌, ◌<◌, List, [], ◌∷◌, ◌++◌, length}
use Rattle.std.proofs.Common.{get_or, take, drop, Bool, true, false, not, ◌&&◌, Option, Some, None, append_assoc}
use Rattle.std.proofs.Common.{append-nil, arith, inl, inr}
use Rattle.std.specs.Prelude.{◌==◌, ◌⊎◌, if◌then◌else◌}
use Rattle.std.specs.List.{list_all}
use Rattle.std.specs.Str.{bytes_eq}
use Rattle.std.proofs.lemmas.List.{take_more, drop_more, drop_all}
use Rattle.std.proofs.lemmas.Bool.{cases_eq}
use Rattle.std.proofs.lemmas.Bool.Decides.{nat_tests}
use Rattle.std.proofs.lemmas.Slice.Eq.{bytes_eq-Decides}
use Rattle.stream_base.specs.Lines.{Lacks}
use Rattle.text_reading.specs.Reading.{◌>>=◌, Splits, split_at_first, onto_first}

-- ---- Tests

pub number_same : (a b : ℕ) → (a == b) ≡ true → a ≡ b
number_same a b e = grind (arith, nat_tests)

pub number_itself : (a : ℕ) → (a == a) ≡ true
number_itself a = grind (arith, nat_tests)

pub number_positive : (a : ℕ) → (a == 0) ≡ false → 0 < a
number_positive a e = grind (arith, nat_tests)

pub number_below : (a b : ℕ) → (a == b) ≡ false → a ≤ b → a < b
number_below a b e h = grind (arith, nat_tests)

pub both : (x y : Bool) → (x && y) ≡ true → (x ≡ true) × (y ≡ true)
both true y e = (refl, e)
both false y e = absurd (cc)

pub both_true : (x y : Bool) → x ≡ true → y ≡ true → (x && y) ≡ true
both_true x y p q = rw (p, q) refl

pub bind_some : {A B : Type 0} (o : Option A) (f : A → Option B) (y : B) → (o >>= f) ≡ Some y
    → (x : A) × (o ≡ Some x) × (f x ≡ Some y)
bind_some (Some x) f y e = (x, refl, e)
bind_some None f y e = absurd (cc)

pub bind_is : {A B : Type 0} (o : Option A) (f : A → Option B) (x : A) → o ≡ Some x → (o >>= f) ≡ f x
bind_is o f x e = ap (λ o. o >>= f) e

pub guard_some : {A : Type 0} (b : Bool) (x y : A) → (if b then Some x else None) ≡ Some y → (b ≡ true) × (x ≡ y)
guard_some true x y e = (refl, cc)
guard_some false x y e = absurd (cc)

pub guard_true : {A : Type 0} (b : Bool) (x : A) → b ≡ true → (if b then Some x else None) ≡ Some x
guard_true true x e = refl
guard_true false x e = absurd (cc)

pub guard_false : {A : Type 0} (b : Bool) (x : A) → b ≡ false → (if b then Some x else None) ≡ None
guard_false true x e = absurd (cc)
guard_false false x e = refl

pub not_true : (b : Bool) → (b ≡ true → ⊥) → b ≡ false
not_true true h = absurd (h refl)
not_true false h = refl

pub same_bytes : (xs ys : List ℕ) → bytes_eq xs ys ≡ true → xs ≡ ys
same_bytes xs ys e = (bytes_eq-Decides xs ys).0 e

pub other_bytes : (xs ys : List ℕ) → bytes_eq xs ys ≡ false → xs ≢ ys
other_bytes xs ys e same = let t : bytes_eq xs ys ≡ true = (bytes_eq-Decides xs ys).1 same in let h : true ≡ false =
    sym t ∙ e in absurd (cc)

pub bytes_itself : (xs : List ℕ) → bytes_eq xs xs ≡ true
bytes_itself xs = (bytes_eq-Decides xs xs).1 refl

-- ---- Bytes that a text lacks

pub Lacks-append : (b : ℕ) (xs ys : List ℕ) → Lacks b xs → Lacks b ys → Lacks b (xs ++ ys)
Lacks-append b [] ys h k = k
Lacks-append b (x ∷ xs) ys h k = (h.0, Lacks-append b xs ys h.1 k)

pub Lacks-from_list_all : (b : ℕ) (test : ℕ → Bool) (xs : List ℕ) → ((x : ℕ) → test x ≡ true → x ≢ b)
    → list_all test xs ≡ true → Lacks b xs
Lacks-from_list_all b test [] other h = tt
Lacks-from_list_all b test (x ∷ xs) other h = let p = both (test x) (list_all test xs) h in
    (other x p.0, Lacks-from_list_all b test xs other p.1)

-- a test that a word lacks the byte
abbrev pub word_lacks : ℕ → List ℕ → Bool
word_lacks byte [] = true
word_lacks byte (x ∷ word) = not (x == byte) && word_lacks byte word

pub Lacks-word : (byte : ℕ) (word : List ℕ) → word_lacks byte word ≡ true → Lacks byte word
Lacks-word byte [] e = tt
Lacks-word byte (x ∷ word) e = let p = both (not (x == byte)) (word_lacks byte word) e in
    (differs x byte p.0, Lacks-word byte word p.1)
  where
    differs : (x byte : ℕ) → not (x == byte) ≡ true → x ≢ byte
    differs x byte e same = grind (arith, nat_tests)

-- ---- Splitting at the first such byte

pub split-here : (byte x : ℕ) (text : List ℕ) → x ≡ byte → split_at_first byte (x ∷ text) ≡ Some ([], text)
unfolding split_at_first
split-here byte x text same = by_test (x == byte) (grind (arith, nat_tests))
  where
    by_test : (b : Bool) → b ≡ true → (if b then Some ([], text) else onto_first x (split_at_first byte text)) ≡ Some
        ([], text)
    by_test b e = rw e refl

pub split-later : (byte x : ℕ) (text : List ℕ) → x ≢ byte
    → split_at_first byte (x ∷ text) ≡ onto_first x (split_at_first byte text)
unfolding split_at_first
split-later byte x text other = by_test (x == byte) (grind (arith, nat_tests))
  where
    by_test : (b : Bool) → b ≡ false → (if b then Some ([], text) else onto_first x (split_at_first byte text))
        ≡ onto_first x (split_at_first byte text)
    by_test b e = rw e refl

pub split-empty : (byte : ℕ) → split_at_first byte [] ≡ None
unfolding split_at_first
split-empty byte = refl

pub split_complete : (byte : ℕ) (front rest : List ℕ) → Lacks byte front
    → split_at_first byte (front ++ byte ∷ rest) ≡ Some (front, rest)
split_complete byte [] rest lacks = split-here byte byte rest refl
split_complete byte (x ∷ front) rest lacks = split-later byte x (front ++ byte ∷ rest) lacks.0
    ∙ ap (onto_first x) (split_complete byte front rest lacks.1)

pub split_lacks : (byte : ℕ) (text : List ℕ) → Lacks byte text → split_at_first byte text ≡ None
split_lacks byte [] lacks = split-empty byte
split_lacks byte (x ∷ text) lacks =
    split-later byte x text lacks.0 ∙ ap (onto_first x) (split_lacks byte text lacks.1)

onto_some : (x : ℕ) (o : Option (List ℕ × List ℕ)) (parts : List ℕ × List ℕ) → onto_first x o ≡ Some parts
    → (rest : List ℕ × List ℕ) × (o ≡ Some rest) × (parts ≡ (x ∷ rest.0, rest.1))
onto_some x (Some rest) parts e = (rest, refl, cc)
onto_some x None parts e = absurd (cc)

pub split_sound : (byte : ℕ) (text : List ℕ) (parts : List ℕ × List ℕ) → split_at_first byte text ≡ Some parts
    → Splits byte text parts
split_sound byte [] parts e = absurd (let h : None ≡ Some parts = sym (split-empty byte) ∙ e in cc)
split_sound byte (x ∷ text) parts e = by_byte (λ rest h. split_sound byte text rest h) (cases_eq x byte)
  where
    by_byte : ((rest : List ℕ × List ℕ) → split_at_first byte text ≡ Some rest → Splits byte text rest)
        → (x ≡ byte) ⊎ (x ≡ byte → ⊥) → Splits byte (x ∷ text) parts
    by_byte sound (inl same) =
        let given : Some ([], text) ≡ Some parts = sym (split-here byte x text same) ∙ e in
        let is : ([], text) ≡ parts = cc in
        subst (Splits byte (x ∷ text)) is (ap (λ b. b ∷ text) same, tt)
    by_byte sound (inr other) =
        let part = onto_some x (split_at_first byte text) parts (sym (split-later byte x text other) ∙ e) in
        let rest = sound part.0 part.1 in
        subst (Splits byte (x ∷ text)) (sym part.2) (ap (λ t. x ∷ t) rest.0, (other, rest.1))

onto_none : (x : ℕ) (o : Option (List ℕ × List ℕ)) → onto_first x o ≡ None → o ≡ None
onto_none x (Some parts) e = absurd (cc)
onto_none x None e = refl

pub split_none : (byte : ℕ) (text : List ℕ) → split_at_first byte text ≡ None → Lacks byte text
split_none byte [] e = tt
split_none byte (x ∷ text) e = by_byte (λ h. split_none byte text h) (cases_eq x byte)
  where
    by_byte : (split_at_first byte text ≡ None → Lacks byte text) → (x ≡ byte) ⊎ (x ≡ byte → ⊥) → Lacks byte (x ∷ text)
    by_byte lacks (inl same) = let parts : List ℕ × List ℕ = ([], text) in let found : Some parts ≡ None =
        sym (split-here byte x text same) ∙ e in absurd (cc)
    by_byte lacks (inr other) =
        (other, lacks (onto_none x (split_at_first byte text) (sym (split-later byte x text other) ∙ e)))

-- ---- The loop that looks for the byte

-- the first part goes behind these bytes
abbrev pub onto_all : List ℕ → Option (List ℕ × List ℕ) → Option (List ℕ × List ℕ)
onto_all front (Some parts) = Some (front ++ parts.0, parts.1)
onto_all front None = None

onto_all-onto_first : (front : List ℕ) (x : ℕ) (o : Option (List ℕ × List ℕ))
    → onto_all front (onto_first x o) ≡ onto_all (front ++ x ∷ []) o
onto_all-onto_first front x (Some parts) = ap (λ f. Some (f, parts.1)) (sym (append_assoc front (x ∷ []) parts.0))
onto_all-onto_first front x None = refl

pub split_on : (byte : ℕ) (text : List ℕ) (i : ℕ) → i < length text → get_or text i 0 ≢ byte
    → split_at_first byte text ≡ onto_all (take i text) (split_at_first byte (drop i text))
    → split_at_first byte text ≡ onto_all (take (i + 1) text) (split_at_first byte (drop (i + 1) text))
split_on byte text i within other before =
    before
    ∙ ap (λ t. onto_all (take i text) (split_at_first byte t)) (drop_more text i 0 within)
    ∙ ap (onto_all (take i text)) (split-later byte (get_or text i 0) (drop (i + 1) text) other)
    ∙ onto_all-onto_first (take i text) (get_or text i 0) (split_at_first byte (drop (i + 1) text))
    ∙ ap (λ t. onto_all t (split_at_first byte (drop (i + 1) text))) (sym (take_more text i 0 within))

pub split_found : (byte : ℕ) (text : List ℕ) (i : ℕ) → i < length text → get_or text i 0 ≡ byte
    → split_at_first byte text ≡ onto_all (take i text) (split_at_first byte (drop i text))
    → split_at_first byte text ≡ Some (take i text, drop (i + 1) text)
split_found byte text i within same before =
    before
    ∙ ap (λ t. onto_all (take i text) (split_at_first byte t)) (drop_more text i 0 within)
    ∙ ap (onto_all (take i text)) (split-here byte (get_or text i 0) (drop (i + 1) text) same)
    ∙ ap (λ t. Some (t, drop (i + 1) text)) (append-nil (take i text))

pub split_not_found : (byte : ℕ) (text : List ℕ) (i : ℕ) → length text ≤ i
    → split_at_first byte text ≡ onto_all (take i text) (split_at_first byte (drop i text))
    → split_at_first byte text ≡ None
split_not_found byte text i past before =
    before ∙ ap (λ t. onto_all (take i text) (split_at_first byte t)) (drop_all i text past)
    ∙ ap (onto_all (take i text)) (split-empty byte)
