-- A time is read from the texts that spell it, and from no others.
use Rattle.std.proofs.Common.{◌≡◌, ◌∙◌, sym, ap, refl, subst, ℕ, ◌*◌, ◌^◌, ◌≤◌, ◌<◌, List, [], ◌∷◌, ◌++◌, Bool, true, false, Some, None, arith}
use Rattle.std.specs.Prelude.{codes, if◌then◌else◌}
use Rattle.std.specs.Char.{is_ascii_digit}
use Rattle.std.specs.Fmt.{decimal}
use Rattle.std.specs.Str.{all_ascii_digits, bytes_eq}
use Rattle.std.proofs.lemmas.Option.{none-some}
use Rattle.text_reading.specs.Reading.{number_within}
use Rattle.text_reading.proofs.NumberLemmas.{decimal_digits, within_complete, within_sound}
use Rattle.text_reading.proofs.TextLemmas.{bind_is, bind_some, both, same_bytes}
use Rattle.config_values.specs.Time.{SpellsTime, behind_digits, digits_before, time_at, unit_of}
use Rattle.config_values.specs.declared.time.TheConstants.{DAY_MS}

-- the four units
data IsUnit : List ℕ → ℕ × ℕ → Type 0 where
  is_ms : IsUnit (codes "ms") (1, 86400000)
  is_s : IsUnit (codes "s") (1000, 86400)
  is_m : IsUnit (codes "m") (60000, 1440)
  is_h : IsUnit (codes "h") (3600000, 24)

found : (word spelled : List ℕ) (u v : ℕ × ℕ) → bytes_eq word spelled ≡ true → IsUnit spelled u → Some u ≡ Some v → IsUnit word v
found word spelled u v e is same =
    let one : u ≡ v = cc in
    subst (λ (w : List ℕ). IsUnit w v) (sym (same_bytes word spelled e)) (subst (IsUnit spelled) one is)

is_unit : (word : List ℕ) (u : ℕ × ℕ) → unit_of word ≡ Some u → IsUnit word u
is_unit word u e = by_ms (bytes_eq word (codes "ms")) refl e
  where
    by_h : (b : Bool) → bytes_eq word (codes "h") ≡ b → (if b then Some (3600000, 24) else None) ≡ Some u → IsUnit word u
    by_h true is h = found word (codes "h") (3600000, 24) u is is_h h
    by_h false is h = absurd (none-some u h)

    by_m : (b : Bool) → bytes_eq word (codes "m") ≡ b
        → (if b then Some (60000, 1440) else if bytes_eq word (codes "h") then Some (3600000, 24) else None) ≡ Some u → IsUnit word u
    by_m true is h = found word (codes "m") (60000, 1440) u is is_m h
    by_m false is h = by_h (bytes_eq word (codes "h")) refl h

    by_s : (b : Bool) → bytes_eq word (codes "s") ≡ b
        → (if b then Some (1000, 86400) else if bytes_eq word (codes "m") then Some (60000, 1440)
        else if bytes_eq word (codes "h") then Some (3600000, 24) else None) ≡ Some u → IsUnit word u
    by_s true is h = found word (codes "s") (1000, 86400) u is is_s h
    by_s false is h = by_m (bytes_eq word (codes "m")) refl h

    by_ms : (b : Bool) → bytes_eq word (codes "ms") ≡ b
        → (if b then Some (1, 86400000) else if bytes_eq word (codes "s") then Some (1000, 86400)
        else if bytes_eq word (codes "m") then Some (60000, 1440)
        else if bytes_eq word (codes "h") then Some (3600000, 24) else None) ≡ Some u → IsUnit word u
    by_ms true is h = found word (codes "ms") (1, 86400000) u is is_ms h
    by_ms false is h = by_s (bytes_eq word (codes "s")) refl h

-- so many of a unit as a day has at most are no more than a day, and the other way round
in_a_day : (word : List ℕ) (u : ℕ × ℕ) (n : ℕ) → IsUnit word u → n ≤ u.1 → n * u.0 ≤ DAY_MS
in_a_day _ _ n is_ms h = omega arith
in_a_day _ _ n is_s h = omega arith
in_a_day _ _ n is_m h = omega arith
in_a_day _ _ n is_h h = omega arith

day_has : (word : List ℕ) (u : ℕ × ℕ) (n : ℕ) → IsUnit word u → n * u.0 ≤ DAY_MS → (n ≤ u.1) × (n < 2 ^ 64)
day_has _ _ n is_ms h = (omega arith, omega arith)
day_has _ _ n is_s h = (omega arith, omega arith)
day_has _ _ n is_m h = (omega arith, omega arith)
day_has _ _ n is_h h = (omega arith, omega arith)

-- ---- The digits at the front

parted : (text : List ℕ) → text ≡ digits_before text ++ behind_digits text
parted [] = refl
parted (x ∷ text) = by_test (parted text) (is_ascii_digit x)
  where
    by_test : text ≡ digits_before text ++ behind_digits text → (b : Bool)
        → x ∷ text ≡ (if b then x ∷ digits_before text else []) ++ (if b then behind_digits text else x ∷ text)
    by_test h true = ap (λ (t : List ℕ). x ∷ t) h
    by_test h false = refl

parted_at : (digits : List ℕ) (x : ℕ) (rest : List ℕ) → all_ascii_digits digits ≡ true → is_ascii_digit x ≡ false
    → (digits_before (digits ++ x ∷ rest) ≡ digits) × (behind_digits (digits ++ x ∷ rest) ≡ x ∷ rest)
parted_at [] x rest e other = (rw other refl, rw other refl)
parted_at (d ∷ digits) x rest e other =
    let p = both (is_ascii_digit d) (all_ascii_digits digits) e in
    let h = parted_at digits x rest p.1 other in
    (rw p.0 (ap (λ (t : List ℕ). d ∷ t) h.0), rw p.0 h.1)

unit_parts : (word : List ℕ) (u : ℕ × ℕ) (digits : List ℕ) → IsUnit word u → all_ascii_digits digits ≡ true
    → (digits_before (digits ++ word) ≡ digits) × (behind_digits (digits ++ word) ≡ word)
unit_parts _ _ digits is_ms e = parted_at digits 109 (115 ∷ []) e refl
unit_parts _ _ digits is_s e = parted_at digits 115 [] e refl
unit_parts _ _ digits is_m e = parted_at digits 109 [] e refl
unit_parts _ _ digits is_h e = parted_at digits 104 [] e refl

-- ---- Both ways

pub time_sound : (text : List ℕ) (ms : ℕ) → time_at text ≡ Some ms → SpellsTime text ms
unfolding time_at
time_sound text ms e =
    let unit = bind_some (unit_of (behind_digits text)) _ ms e in
    let number = bind_some (number_within 1 unit.0.1 (digits_before text)) _ ms unit.2 in
    let is = within_sound 1 unit.0.1 (digits_before text) number.0 number.1 in
    let value : number.0 * unit.0.0 ≡ ms = cc in
    record {
      number = number.0;
      word = behind_digits text;
      unit = unit.0;
      spelled = parted text ∙ ap (λ (t : List ℕ). t ++ behind_digits text) is.0;
      is_unit = unit.1;
      value = sym value;
      some = is.1;
      at_most_a_day = subst (λ (n : ℕ). n ≤ DAY_MS) value
          (in_a_day (behind_digits text) unit.0 number.0 (is_unit (behind_digits text) unit.0 unit.1) is.2);
    }

pub time_complete : (text : List ℕ) (ms : ℕ) → SpellsTime text ms → time_at text ≡ Some ms
unfolding time_at
time_complete text ms s =
    let unit = is_unit s.word s.unit s.is_unit in
    let day = day_has s.word s.unit s.number unit (subst (λ (n : ℕ). n ≤ DAY_MS) s.value s.at_most_a_day) in
    let parts = unit_parts s.word s.unit (decimal s.number) unit (decimal_digits s.number day.1) in
    let behind : behind_digits text ≡ s.word = ap behind_digits s.spelled ∙ parts.1 in
    let before : digits_before text ≡ decimal s.number = ap digits_before s.spelled ∙ parts.0 in
    bind_is (unit_of (behind_digits text)) _ s.unit (ap unit_of behind ∙ s.is_unit)
    ∙ bind_is (number_within 1 s.unit.1 (digits_before text)) _ s.number
    (ap (number_within 1 s.unit.1) before ∙ within_complete 1 s.unit.1 s.number day.1 s.some day.0)
    ∙ ap (λ (n : ℕ). Some n) (sym s.value)
