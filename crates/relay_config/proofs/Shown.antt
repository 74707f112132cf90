-- The front of a text that is shown.
use Rattle.std.proofs.Common.{◌≡◌, ◌∙◌, ◌⊎◌, inl, inr, ap, sym, refl, ℕ, ◌<◌, ◌≤◌, ◌&&◌, List, [], ◌∷◌, Bool, true, false, None, length, take, arith}
use Rattle.std.specs.Prelude.{if◌then◌else◌, nat_lt}
use Rattle.std.specs.Char.{is_ascii}
use Rattle.std.specs.Fmt.{debug_str}
use Rattle.std.specs.List.{list_all}
use Rattle.std.specs.Str.{IsAscii, IsCharBoundary}
use Rattle.std.proofs.lemmas.Bool.{cases_lt}
use Rattle.std.proofs.lemmas.Bool.Decides.{nat_tests}
use Rattle.std.proofs.lemmas.List.{length-take-le, take_all}
use Rattle.std.proofs.lemmas.Str.{IsCharBoundary-from_ascii}
use Rattle.std.proofs.lemmas.Str.Ascii.{IsAscii-cons, IsAscii-nil}
use Rattle.relay_config.specs.Fronts.{IsLongestFront}
use Rattle.relay_config.specs.Line.{quoted}
use Rattle.relay_config.specs.declared.line.TheConstants.{MAX_SHOWN_BYTES}

-- a front that ends at the last place between characters is the longest
pub front_longest : (most : ℕ) (text front : List ℕ) (size : ℕ) → front ≡ take size text → size ≤ most → IsCharBoundary text size
    → ((i : ℕ) → size < i → i ≤ most → IsCharBoundary text i → ⊥) → IsLongestFront most text front
front_longest most text front size is fits boundary nearest = record {
  begins = is ∙ ap (λ n. take n text) (sym long);
  fits = omega (arith, long, fits);
  longest = λ i within between. by_place i within between (cases_lt size i);
}
  where
    long : length front ≡ size
    long = ap length is ∙ length-take-le size text boundary.0

    by_place : (i : ℕ) → i ≤ most → IsCharBoundary text i → (size < i) ⊎ (i ≤ size) → i ≤ length front
    by_place i within between (inl farther) = absurd (nearest i farther within between)
    by_place i within between (inr nearer) = omega (arith, long, nearer)

first_ascii : (b : ℕ) (text : List ℕ) (first : Bool) → nat_lt b 128 ≡ first → (first && list_all is_ascii text) ≡ true
    → (list_all is_ascii text ≡ true → IsAscii text) → IsAscii (b ∷ text)
first_ascii b text true is all rest = IsAscii-cons b text (grind (arith, nat_tests)) (rest all)
first_ascii b text false is all rest = absurd (cc)

is_ascii_text : (text : List ℕ) → list_all is_ascii text ≡ true → IsAscii text
is_ascii_text [] all = IsAscii-nil
is_ascii_text (b ∷ text) all = first_ascii b text (nat_lt b 128) refl all (is_ascii_text text)

-- of a text in ASCII as many bytes are shown as fit
pub ascii_front : (most : ℕ) (text front : List ℕ) → IsLongestFront most text front → list_all is_ascii text ≡ true
    → front ≡ take most text
ascii_front most text front is all = by_size (cases_lt most (length text))
  where
    by_size : (most < length text) ⊎ (length text ≤ most) → front ≡ take most text
    by_size (inl longer) =
        let whole : most ≤ length front =
        is.longest most (omega arith) (IsCharBoundary-from_ascii text most (is_ascii_text text all) (omega (arith, longer))) in
        let same : length front ≡ most = omega (arith, whole, is.fits) in
        is.begins ∙ ap (λ n. take n text) same
    by_size (inr shorter) =
        let whole : length text ≤ length front =
        is.longest (length text) shorter (IsCharBoundary-from_ascii text (length text) (is_ascii_text text all) (omega arith)) in
        is.begins ∙ take_all (length front) text whole ∙ sym (take_all most text shorter)

-- a text in ASCII is shown by its front in quotes
pub quoted_front : (text front : List ℕ) → IsLongestFront MAX_SHOWN_BYTES text front → list_all is_ascii text ≡ true
    → quoted text ≡ debug_str front
quoted_front text front is all =
    ap (λ (ascii : Bool). if ascii then debug_str (take MAX_SHOWN_BYTES text) else None) all
    ∙ ap debug_str (sym (ascii_front MAX_SHOWN_BYTES text front is all))
