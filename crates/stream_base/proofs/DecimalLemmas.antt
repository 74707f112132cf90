-- The one spelling of a number.
use Rattle.std.specs.Prelude.{◌∷◌, ◌≡◌, ◌≢◌, ◌<◌, ◌≤◌, ◌^◌, ◌&&◌, if◌then◌else◌}
use Rattle.stream_base.proofs.Words.{[], Option, Some, None, ◌∙◌, sym, ap, subst, ℕ, zero, suc}
use Rattle.stream_base.proofs.Words.{List, length, get_or, Bool, true, false, refl, Result, Ok, Err, arith, rules}
use Rattle.stream_base.proofs.Words.{IfOk, OnErr, nat_lt, IsInRange, all_ascii_digits, bytes_eq}
use Rattle.stream_base.proofs.Words.{ParsesUnsigned, digits_value, decimal, OkIff, IsNumeralModel, numerals_by_value}
use Rattle.stream_base.proofs.Words.{not_in_digits, parse_plain, decimal-digits_value, decimal_digit, decimal_nonempty}
use Rattle.stream_base.proofs.Words.{digits_decimal, digits_value-decimal, first_decimal, nat_tests, bytes_eq-Decides}
use Rattle.stream_base.specs.Decimal.{number_of}
use Rattle.stream_base.specs.Lines.{Lacks}

-- the texts of digits, with their values
pub numerals : IsNumeralModel (λ ds. all_ascii_digits ds ≡ true) (digits_value 10)
numerals = numerals_by_value _ (search rules)

-- a number's spelling has no sign in front
pub decimal-no_plus : (n : ℕ) (text : List ℕ) → n < 2 ^ 64 → text ≡ decimal n → get_or text 0 0 ≢ 43
decimal-no_plus n text h e =
    subst (λ (t : List ℕ). get_or t 0 0 ≢ 43) (sym e)
    (not_in_digits numerals (decimal n) 43 (digits_decimal numerals n h) (λ r. omega arith) 0 (decimal_nonempty n h))

-- it begins with a zero only if it is that zero
pub decimal-no_zeros : (n : ℕ) (text : List ℕ) → n < 2 ^ 64 → text ≡ decimal n → get_or text 0 0 ≡ 48 → length text ≤ 1
decimal-no_zeros zero text h e z = omega (arith, ap length (e ∙ decimal_digit 0 (omega arith)))
decimal-no_zeros (suc n) text h e z =
    let first : 48 < get_or (decimal (suc n)) 0 0 = first_decimal (suc n) (omega arith) h in
    absurd (omega (arith, ap (λ (t : List ℕ). get_or t 0 0) e))

-- what was parsed with no sign and no zeros in front is spelled so
pub parsed_is_spelled : {E : Type 0} (text : List ℕ) (r : Result ℕ E) → ParsesUnsigned 64 10 text r
    → get_or text 0 0 ≢ 43 → (get_or text 0 0 ≡ 48 → length text ≤ 1) → IfOk r (λ n. text ≡ decimal n)
parsed_is_spelled text r h plain lead = by_result r (parse_plain numerals 64 text r h plain)
  where
    by_result : {E : Type 0} (r : Result ℕ E) → OkIff r
        ((all_ascii_digits text ≡ true) × (0 < length text) × (digits_value 10 text < 2 ^ 64)) (digits_value 10 text)
        → IfOk r (λ n. text ≡ decimal n)
    by_result (Ok n) w =
        let some : 0 < length text = w.0.1 in
        sym (decimal-digits_value numerals text w.0.0 some (λ z. let short : length text ≤ 1 = lead z in omega arith)
        w.0.2) ∙ ap decimal (sym w.1)
    by_result (Err e) w = tt

-- what isn't parsed with no sign in front spells no number
pub refused_is_none : {E : Type 0} (text : List ℕ) (r : Result ℕ E) → ParsesUnsigned 64 10 text r → get_or text 0 0 ≢ 43
    → OnErr r ((n : ℕ) → n < 2 ^ 64 → text ≢ decimal n)
refused_is_none text r h plain = by_result r (parse_plain numerals 64 text r h plain)
  where
    by_result : {E : Type 0} (r : Result ℕ E) → OkIff r
        ((all_ascii_digits text ≡ true) × (0 < length text) × (digits_value 10 text < 2 ^ 64)) (digits_value 10 text)
        → OnErr r ((n : ℕ) → n < 2 ^ 64 → text ≢ decimal n)
    by_result (Ok n) w = tt
    by_result (Err x) w = λ n h e.
        w
        (subst (λ (t : List ℕ). (all_ascii_digits t ≡ true) × (0 < length t) × (digits_value 10 t < 2 ^ 64)) (sym e) (
          digits_decimal numerals n h,
          decimal_nonempty n h,
          subst (λ (v : ℕ). v < 2 ^ 64)
              (sym (digits_value-decimal numerals n h)) h,
        ))

-- ---- Which bytes a spelling has

lacks_at_each : (b : ℕ) (xs : List ℕ) → ((i : ℕ) → i < length xs → get_or xs i 0 ≢ b) → Lacks b xs
lacks_at_each b [] h = tt
lacks_at_each b (x ∷ xs) h = (h 0 (omega arith), lacks_at_each b xs (λ i k. h (suc i) (omega arith)))

-- a spelling has digits alone
pub decimal-lacks : (b n : ℕ) → n < 2 ^ 64 → ¬ (IsInRange 48 57 b) → Lacks b (decimal n)
decimal-lacks b n h other =
    lacks_at_each b (decimal n) (not_in_digits numerals (decimal n) b (digits_decimal numerals n h) other)

-- ---- The number that a text spells

both : (x y : Bool) → (x && y) ≡ true → (x ≡ true) × (y ≡ true)
both true y e = (refl, e)
both false y e = absurd (cc)

is_below : (v : ℕ) → nat_lt v (2 ^ 64) ≡ true → v < 2 ^ 64
is_below v e = grind (arith, nat_tests)

tells_below : (v : ℕ) → v < 2 ^ 64 → nat_lt v (2 ^ 64) ≡ true
tells_below v e = grind (arith, nat_tests)

chosen_some : (b : Bool) (x y : ℕ) → (if b then Some x else None) ≡ Some y → (b ≡ true) × (x ≡ y)
chosen_some true x y e = (refl, cc)
chosen_some false x y e = absurd (cc)

chosen_true : (a b : Bool) (x : ℕ) → a ≡ true → b ≡ true → (if a && b then Some x else None) ≡ Some x
chosen_true a b x p q = rw (p, q) refl

-- the number of a text is spelled so
pub number_of-spelled : (text : List ℕ) (n : ℕ) → number_of text ≡ Some n → (text ≡ decimal n) × (n < 2 ^ 64)
number_of-spelled text n e =
    by_choice (digits_value 10 text) (chosen_some
    (bytes_eq text (decimal (digits_value 10 text)) && nat_lt (digits_value 10 text) (2 ^ 64))
    (digits_value 10 text) n e)
  where
    by_choice : (v : ℕ) → ((bytes_eq text (decimal v) && nat_lt v (2 ^ 64)) ≡ true) × (v ≡ n)
        → (text ≡ decimal n) × (n < 2 ^ 64)
    by_choice v w =
        let tests = both (bytes_eq text (decimal v)) (nat_lt v (2 ^ 64)) w.0 in
        let P : ℕ → Type 0 = λ m. (text ≡ decimal m) × (m < 2 ^ 64) in
        subst P w.1 ((bytes_eq-Decides text (decimal v)).0 tests.0, is_below v tests.1)

-- the number of a spelling is the one that is spelled
pub number_of-decimal : (text : List ℕ) (n : ℕ) → text ≡ decimal n → n < 2 ^ 64 → number_of text ≡ Some n
number_of-decimal text n e h =
    by_value (digits_value 10 text) (ap (digits_value 10) e ∙ digits_value-decimal numerals n h)
  where
    by_value : (v : ℕ) → v ≡ n → (if bytes_eq text (decimal v) && nat_lt v (2 ^ 64) then Some v else None) ≡ Some n
    by_value v same =
        subst (λ (m : ℕ). (if bytes_eq text (decimal m) && nat_lt m (2 ^ 64) then Some m else None) ≡ Some n) (sym same)
        (chosen_true (bytes_eq text (decimal n)) (nat_lt n (2 ^ 64)) n ((bytes_eq-Decides text (decimal n)).1 e)
        (tells_below n h))

-- a text that spells none has none
pub number_of-none : (text : List ℕ) → ((n : ℕ) → n < 2 ^ 64 → text ≢ decimal n) → number_of text ≡ None
number_of-none text h = by_option (number_of text) (λ n e. number_of-spelled text n e)
  where
    by_option : (o : Option ℕ) → ((n : ℕ) → o ≡ Some n → (text ≡ decimal n) × (n < 2 ^ 64)) → o ≡ None
    by_option None f = refl
    by_option (Some n) f = let w = f n refl in absurd (h n w.1 w.0)
