-- A rate is read from the texts that spell it, and from no others.
use Rattle.std.proofs.Common.{◌≡◌, ◌≢◌, ◌∙◌, ap, refl, sym, subst, ℕ, ◌≤◌, List, ◌∷◌, ◌++◌, Bool, true, false, Option, Some, None, arith}
use Rattle.std.specs.Char.{is_ascii_digit}
use Rattle.std.specs.Fmt.{decimal}
use Rattle.std.proofs.lemmas.Bool.Decides.{nat_tests}
use Rattle.text_reading.specs.Reading.{number_within, split_at_first}
use Rattle.text_reading.proofs.NumberLemmas.{Lacks-decimal, within_complete, within_sound}
use Rattle.text_reading.proofs.TextLemmas.{bind_is, bind_some, split_complete, split_sound}
use Rattle.config_values.specs.Rate.{SpellsRate, rate_at, unit_seconds}
use Rattle.config_values.specs.declared.rate.Rate.{Rate}
use Rattle.config_values.specs.declared.rate.TheConstants.{MAX_RATE}

-- the count and the seconds of a rate that was read
same_parts : (count seconds : ℕ) (rate : Rate) → Some (record { count = count; seconds = seconds }) ≡ Some rate
    → (count ≡ rate.count) × (seconds ≡ rate.seconds)
same_parts count seconds rate e = (cc, cc)

pub rate_sound : (text : List ℕ) (rate : Rate) → rate_at text ≡ Some rate → SpellsRate text rate
unfolding rate_at
rate_sound text rate e =
    let parts = bind_some (split_at_first 47 text) _ rate e in
    let unit = bind_some (unit_seconds parts.0.1) _ rate parts.2 in
    let number = bind_some (number_within 1 MAX_RATE parts.0.0) _ rate unit.2 in
    let same = same_parts number.0 unit.0 rate number.2 in
    let is = within_sound 1 MAX_RATE parts.0.0 number.0 number.1 in
    let split = split_sound 47 text parts.0 parts.1 in
    record {
      unit = parts.0.1;
      spelled = split.0 ∙ ap (λ (t : List ℕ). t ++ 47 ∷ parts.0.1) (is.0 ∙ ap decimal same.0);
      is_unit = unit.1 ∙ ap Some same.1;
      some = subst (λ (n : ℕ). 1 ≤ n) same.0 is.1;
      most = subst (λ (n : ℕ). n ≤ MAX_RATE) same.0 is.2;
    }

digit_no_slash : (x : ℕ) → is_ascii_digit x ≡ true → x ≢ 47
digit_no_slash x e same = grind (arith, nat_tests)

pub rate_complete : (text : List ℕ) (rate : Rate) → SpellsRate text rate → rate_at text ≡ Some rate
unfolding rate_at
rate_complete text rate is =
    let most = is.most in
    bind_is (split_at_first 47 text) _ (decimal rate.count, is.unit)
    (ap (split_at_first 47) is.spelled ∙ split_complete 47 (decimal rate.count) is.unit (Lacks-decimal 47 rate.count digit_no_slash (omega arith)))
    ∙ bind_is (unit_seconds is.unit) _ rate.seconds is.is_unit
    ∙ bind_is (number_within 1 MAX_RATE (decimal rate.count)) _ rate.count
    (within_complete 1 MAX_RATE rate.count (omega arith) is.some is.most)
