-- A mode is read from the text that spells it, and from no other.
use Rattle.std.proofs.Common.{◌≡◌, ◌∙◌, sym, ap, refl, ℕ, ◌+◌, ◌-◌, ◌*◌, ◌/◌, ◌%◌, ◌≤◌, ◌<◌, List, [], ◌∷◌, Bool, true, false, ◌&&◌, Option, Some, None, arith}
use Rattle.std.specs.Prelude.{◌==◌, nat_le, if◌then◌else◌}
use Rattle.std.proofs.lemmas.Bool.Decides.{nat_tests}
use Rattle.std.proofs.lemmas.Option.{none-some}
use Rattle.text_reading.proofs.TextLemmas.{bind_is, bind_some, guard_some, guard_true}
use Rattle.config_values.specs.Mode.{SpellsMode, digits_mode, mode_at, octal_digit, octal_text}

in_range : (byte : ℕ) → (nat_le 48 byte && nat_le byte 55) ≡ true → (48 ≤ byte) × (byte ≤ 55)
in_range byte e = (grind (arith, nat_tests), grind (arith, nat_tests))

digit_sound : (byte digit : ℕ) → octal_digit byte ≡ Some digit → (byte ≡ 48 + digit) × (digit < 8)
digit_sound byte digit e =
    let is = guard_some (nat_le 48 byte && nat_le byte 55) (byte - 48) digit e in
    let range = in_range byte is.0 in
    let low = range.0 in
    let high = range.1 in
    let same = is.1 in
    (omega arith, omega arith)

digit_complete : (digit : ℕ) → digit < 8 → octal_digit (48 + digit) ≡ Some digit
digit_complete digit h =
    let value : 48 + digit - 48 ≡ digit = omega arith in
    guard_true (nat_le 48 (48 + digit) && nat_le (48 + digit) 55) (48 + digit - 48) (grind (arith, nat_tests)) ∙ ap (λ (d : ℕ). Some d) value

first_is : (first : ℕ) (read : Option ℕ) (mode : ℕ) → (if first == 48 then read else None) ≡ Some mode → (first ≡ 48) × (read ≡ Some mode)
first_is first read mode e = by_test (first == 48) (λ h. grind (arith, nat_tests)) e
  where
    by_test : (b : Bool) → (b ≡ true → first ≡ 48) → (if b then read else None) ≡ Some mode → (first ≡ 48) × (read ≡ Some mode)
    by_test true is h = (is refl, h)
    by_test false is h = absurd (none-some mode h)

same_digits : (a b c mode : ℕ) → a < 8 → b < 8 → c < 8 → 64 * a + 8 * b + c ≡ mode
    → (mode < 512) × (mode / 64 ≡ a) × (mode / 8 % 8 ≡ b) × (mode % 8 ≡ c)
same_digits a b c mode p q r e =
    let eighth : mode / 8 ≡ 8 * a + b = omega arith in
    (omega arith, omega arith, omega arith, omega arith)

pub mode_sound : (text : List ℕ) (mode : ℕ) → mode_at text ≡ Some mode → SpellsMode text mode
unfolding mode_at
mode_sound [] mode e = absurd (none-some mode e)
mode_sound (_ ∷ []) mode e = absurd (none-some mode e)
mode_sound (_ ∷ _ ∷ []) mode e = absurd (none-some mode e)
mode_sound (_ ∷ _ ∷ _ ∷ []) mode e = absurd (none-some mode e)
mode_sound (_ ∷ _ ∷ _ ∷ _ ∷ _ ∷ _) mode e = absurd (none-some mode e)
mode_sound (first ∷ owner ∷ group ∷ others ∷ []) mode e =
    let zero_is = first_is first (digits_mode owner group others) mode e in
    let a = bind_some (octal_digit owner) _ mode zero_is.1 in
    let b = bind_some (octal_digit group) _ mode a.2 in
    let c = bind_some (octal_digit others) _ mode b.2 in
    let is_a = digit_sound owner a.0 a.1 in
    let is_b = digit_sound group b.0 b.1 in
    let is_c = digit_sound others c.0 c.1 in
    let value : 64 * a.0 + 8 * b.0 + c.0 ≡ mode = cc in
    let same = same_digits a.0 b.0 c.0 mode is_a.1 is_b.1 is_c.1 value in
    let owner_is : owner ≡ octal_text (mode / 64) = is_a.0 ∙ ap octal_text (sym same.1) in
    let group_is : group ≡ octal_text (mode / 8 % 8) = is_b.0 ∙ ap octal_text (sym same.2) in
    let others_is : others ≡ octal_text (mode % 8) = is_c.0 ∙ ap octal_text (sym same.3) in
    let first_is : first ≡ 48 = zero_is.0 in
    (same.0, cc)

pub mode_complete : (text : List ℕ) (mode : ℕ) → SpellsMode text mode → mode_at text ≡ Some mode
unfolding mode_at
mode_complete text mode is =
    let small = is.0 in
    let a = digit_complete (mode / 64) (omega arith) in
    let b = digit_complete (mode / 8 % 8) (omega arith) in
    let c = digit_complete (mode % 8) (omega arith) in
    let value : 64 * (mode / 64) + 8 * (mode / 8 % 8) + mode % 8 ≡ mode = omega arith in
    ap mode_at is.1 ∙ bind_is (octal_digit (octal_text (mode / 64))) _ (mode / 64) a
    ∙ bind_is (octal_digit (octal_text (mode / 8 % 8))) _ (mode / 8 % 8) b
    ∙ bind_is (octal_digit (octal_text (mode % 8))) _ (mode % 8) c ∙ ap (λ (m : ℕ). Some m) value
