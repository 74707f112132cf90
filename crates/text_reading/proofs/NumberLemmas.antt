-- A number within bounds is read from its decimal text, and from no other.
use Rattle.std.proofs.Common.{◌≡◌, ◌≢◌, ◌∙◌, sym, ap, refl, ℕ, ◌^◌, ◌≤◌, ◌<◌, List, [], ◌∷◌, true, ◌&&◌, Option, Some}
use Rattle.std.proofs.Common.{None, arith, rules}
use Rattle.std.specs.Prelude.{nat_le, if◌then◌else◌}
use Rattle.std.specs.Char.{is_ascii_digit}
use Rattle.std.specs.Str.{all_ascii_digits, bytes_eq}
use Rattle.std.specs.Fmt.{decimal}
use Rattle.std.proofs.lemmas.Str.Parse.{IsNumeralModel, numerals_by_fold}
use Rattle.std.proofs.lemmas.Fmt.{digits_decimal, digits_value-decimal}
use Rattle.std.proofs.lemmas.Bool.Decides.{nat_tests}
use Rattle.stream_base.specs.Lines.{Lacks}
use Rattle.text_reading.specs.Reading.{SpellsNumber, value_from, number_within}
use Rattle.text_reading.proofs.TextLemmas.{both, both_true, guard_some, guard_true, same_bytes, bytes_itself}

pub digits_have_value : IsNumeralModel (λ digits. all_ascii_digits digits ≡ true) (value_from 0)
digits_have_value = numerals_by_fold _ (search rules) value_from (search rules)

pub value-decimal : (n : ℕ) → n < 2 ^ 64 → value_from 0 (decimal n) ≡ n
value-decimal n wide = digits_value-decimal digits_have_value n wide

pub decimal_digits : (n : ℕ) → n < 2 ^ 64 → all_ascii_digits (decimal n) ≡ true
decimal_digits n wide = digits_decimal digits_have_value n wide

pub Lacks-decimal : (byte n : ℕ) → ((x : ℕ) → is_ascii_digit x ≡ true → x ≢ byte) → n < 2 ^ 64 → Lacks byte (decimal n)
Lacks-decimal byte n other wide = of_digits (decimal n) (decimal_digits n wide)
  where
    of_digits : (digits : List ℕ) → all_ascii_digits digits ≡ true → Lacks byte digits
    of_digits [] e = tt
    of_digits (x ∷ digits) e = let p = both (is_ascii_digit x) (all_ascii_digits digits) e in
        (other x p.0, of_digits digits p.1)

bounds : (low high n : ℕ) → (nat_le low n && nat_le n high) ≡ true → (low ≤ n) × (n ≤ high)
bounds low high n e = (grind (arith, nat_tests), grind (arith, nat_tests))

within : (low high n : ℕ) → low ≤ n → n ≤ high → (nat_le low n && nat_le n high) ≡ true
within low high n lo hi = grind (arith, nat_tests)

pub within_sound : (low high : ℕ) (text : List ℕ) (n : ℕ) → number_within low high text ≡ Some n
    → (text ≡ decimal n) × (low ≤ n) × (n ≤ high)
unfolding number_within
within_sound low high text n e =
    let v : ℕ = value_from 0 text in
    let g = guard_some (bytes_eq text (decimal v) && (nat_le low v && nat_le v high)) v n e in
    let tests = both (bytes_eq text (decimal v)) (nat_le low v && nat_le v high) g.0 in
    let b = bounds low high v tests.1 in
    let same : v ≡ n = g.1 in
    let lo : low ≤ v = b.0 in
    let hi : v ≤ high = b.1 in
    (same_bytes text (decimal v) tests.0 ∙ ap decimal same, omega arith, omega arith)

of_value : (low high v n : ℕ) → v ≡ n → low ≤ n → n ≤ high
    → (if bytes_eq (decimal n) (decimal v) && (nat_le low v && nat_le v high) then Some v else None) ≡ Some n
of_value low high v n e lo hi =
    rw e (guard_true (bytes_eq (decimal n) (decimal n) && (nat_le low n && nat_le n high)) n
    (both_true (bytes_eq (decimal n) (decimal n)) (nat_le low n && nat_le n high) (bytes_itself (decimal n))
    (within low high n lo hi)))

pub within_complete : (low high n : ℕ) → n < 2 ^ 64 → low ≤ n → n ≤ high → number_within low high (decimal n) ≡ Some n
unfolding number_within
within_complete low high n wide lo hi = of_value low high (value_from 0 (decimal n)) n (value-decimal n wide) lo hi

-- ---- What the reader of numbers answered

pub number_found : (low high : ℕ) (text : List ℕ) (n : ℕ) → n < 2 ^ 64 → text ≡ decimal n → low ≤ n → n ≤ high
    → Some n ≡ number_within low high text
number_found low high text n wide spelled lo hi =
    sym (ap (number_within low high) spelled ∙ within_complete low high n wide lo hi)

none_is : {A : Type 0} (o : Option A) → ((x : A) → o ≡ Some x → ⊥) → None ≡ o
none_is (Some x) h = absurd (h x refl)
none_is None h = refl

pub number_refused : (low high : ℕ) (text : List ℕ) → high < 2 ^ 64 → ((n : ℕ) → n < 2 ^ 64 → text ≢ decimal n)
    → None ≡ number_within low high text
number_refused low high text wide other =
    none_is (number_within low high text) (λ n e. let s = within_sound low high text n e in let hi : n ≤ high = s.2 in
    other n (omega arith) s.0)

pub number_outside : (low high : ℕ) (text : List ℕ) (n : ℕ) → high < 2 ^ 64 → n < 2 ^ 64 → text ≡ decimal n
    → (low ≤ n → n ≤ high → ⊥) → None ≡ number_within low high text
number_outside low high text n wide small spelled out =
    none_is (number_within low high text) (λ m e.
    let s = within_sound low high text m e in
    let hi : m ≤ high = s.2 in
    let lo : low ≤ m = s.1 in
    let values : value_from 0 (decimal m) ≡ value_from 0 (decimal n) = ap (value_from 0) (sym s.0 ∙ spelled) in
    let same : m ≡ n = sym (value-decimal m (omega arith)) ∙ values ∙ value-decimal n small in
    out (omega arith) (omega arith))

-- where no number is read, the text spells none
pub spells_none : (low high : ℕ) (text : List ℕ) → high < 2 ^ 64 → None ≡ number_within low high text
    → (n : ℕ) → SpellsNumber low high text n → ⊥
spells_none low high text wide none n is =
    let hi : n ≤ high = is.2 in
    let found : number_within low high text ≡ Some n =
    ap (number_within low high) is.0 ∙ within_complete low high n (omega arith) is.1 is.2 in
    let same : None ≡ Some n = none ∙ found in
    absurd (cc)
