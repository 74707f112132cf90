-- What is said of a text, by what it is made of.
use Rattle.std.proofs.Common.{◌≡◌, ◌≢◌, ◌∙◌, ◌⊎◌, inl, inr, ap, refl, sym, ℕ, List, [], ◌++◌, Bool, true, false, Option, Some, None, Result, Ok, Err, String, Global, string_bytes, append_assoc, append-nil}
use Rattle.std.specs.Prelude.{IfOk, IfSome, if◌then◌else◌, codes, take}
use Rattle.std.specs.Char.{is_ascii}
use Rattle.std.specs.Fmt.{◌++?◌, debug_str, decimal}
use Rattle.std.specs.List.{list_all}
use Rattle.toml.specs.Data.{Members}
use Rattle.relay_config.specs.Fronts.{IsLongestFront}
use Rattle.relay_config.specs.Line.{IsText, IsTomlLine, IsUnknownLine, meant_words, place_words, quoted, told_of, twice_words, wrong_words}
use Rattle.relay_config.specs.LookedUp.{AreNearest, key_number, keys_of}
use Rattle.relay_config.specs.declared.fault.Key.{Key}
use Rattle.relay_config.specs.declared.fault.Key.TheVariants as key
use Rattle.relay_config.specs.declared.fault.Place.{Place}
use Rattle.relay_config.specs.declared.fault.Spot.{Spot}
use Rattle.relay_config.specs.declared.fault.Wrong.{Wrong}
use Rattle.relay_config.specs.declared.fault.Wrong.TheVariants as wrong
use Rattle.relay_config.specs.declared.line.TheConstants.{MAX_SHOWN_BYTES}
use Rattle.relay_config.proofs.Shown.{quoted_front}

-- a text in ASCII is quoted by its front, and of another nothing is said
pub quoted_cases : (text front : List ℕ) → IsLongestFront MAX_SHOWN_BYTES text front
    → (quoted text ≡ debug_str front) ⊎ (quoted text ≡ None)
quoted_cases text front is = by_ascii (list_all is_ascii text) refl
  where
    by_ascii : (ascii : Bool) → list_all is_ascii text ≡ ascii → (quoted text ≡ debug_str front) ⊎ (quoted text ≡ None)
    by_ascii true all = inl (quoted_front text front is all)
    by_ascii false some = inr (ap (λ (ascii : Bool). if ascii then debug_str (take MAX_SHOWN_BYTES text) else None) some)

-- the same is said
pub same_said : {E : Type 0} (r : Result (String Global) E) (said other : Option (List ℕ)) → said ≡ other
    → IfOk r (λ text. IsText other (string_bytes text)) → IfOk r (λ text. IsText said (string_bytes text))
same_said r said other is fact = rw is fact

-- what was written is said, or nothing is
pub said_or_none : {E : Type 0} (r : Result (String Global) E) (said shown : Option (List ℕ)) → (said ≡ shown) ⊎ (said ≡ None)
    → IfOk r (λ text. IfSome shown (λ bytes. string_bytes text ≡ bytes)) → IfOk r (λ text. IsText said (string_bytes text))
said_or_none (Ok text) said shown (inl same) is = rw same is
said_or_none (Ok text) said shown (inr none) is = rw none tt
said_or_none (Err error) said shown either is = tt

-- a name in quotes is said, with these bytes round it, or nothing is
pub named_or_none : (before after : List ℕ) (said shown : Option (List ℕ)) → (said ≡ shown) ⊎ (said ≡ None)
    → ((Some before ++? said ++? Some after) ≡ (Some before ++? shown ++? Some after)) ⊎ ((Some before ++? said ++? Some after) ≡ None)
named_or_none before after said shown (inl same) = inl (ap (λ (it : Option (List ℕ)). Some before ++? it ++? Some after) same)
named_or_none before after said shown (inr none) = inr (ap (λ (it : Option (List ℕ)). Some before ++? it ++? Some after) none)

-- what was said, and some bytes behind it
pub said_behind : {E : Type 0} (r : Result (String Global) E) (said : Option (List ℕ)) (words here rest tail : List ℕ)
    → IsText said words → here ≡ words → tail ≡ rest → IfOk r (λ text. string_bytes text ≡ here ++ tail)
    → IfOk r (λ text. IsText (said ++? Some rest) (string_bytes text))
said_behind (Ok text) None words here rest tail is same behind whole = tt
said_behind (Ok text) (Some said) words here rest tail is same behind whole =
    whole ∙ ap (λ (front : List ℕ). front ++ tail) (same ∙ is) ∙ ap (λ (end : List ℕ). said ++ end) behind
said_behind (Err error) said words here rest tail is same behind whole = tt

pub twice_other : (it : Key) → it ≢ key.Name → twice_words it ≡ codes " is listened at already"
twice_other key.Name other = absurd (other refl)
twice_other it other = refl

-- ---- A text that is no TOML

regrouped : (at column why : List ℕ) → at ++ (codes ", column " ++ (column ++ (codes ": no TOML: " ++ why)))
    ≡ (((at ++ codes ", column ") ++ column) ++ codes ": no TOML: ") ++ why
regrouped at column why = simp append_assoc

pub toml_said : {E : Type 0} (r : Result (String Global) E) (at column : ℕ) (why : List ℕ)
    → IfOk r (λ text. string_bytes text ≡ codes "bad config: line " ++ (decimal at ++ (codes ", column " ++ (decimal column ++ (codes ": no TOML: " ++ why)))))
    → IfOk r (λ text. IsTomlLine at column (string_bytes text))
toml_said (Ok text) at column why is =
    (why, is ∙ ap (λ (rest : List ℕ). codes "bad config: line " ++ rest) (regrouped (decimal at) (decimal column) why))
toml_said (Err error) at column why is = tt

-- ---- A key that isn't known

-- nothing behind a text
pub nothing_behind : (said : Option (List ℕ)) → said ≡ said ++? Some []
nothing_behind None = refl
nothing_behind (Some text) = ap Some (sym (append-nil text))

module _ (word shown tail : List ℕ) (ending : Option (List ℕ)) (front : IsLongestFront MAX_SHOWN_BYTES word shown)
    (ends : ending ≡ (debug_str shown ++? Some tail)) where
  -- all of its line, or nothing
  key_or_none : (words : List ℕ)
      → ((Some (codes "bad config: ") ++? Some words ++? Some (codes "unknown key ") ++? quoted word ++? Some tail)
      ≡ (Some (codes "bad config: ") ++? (Some words ++? (Some (codes "unknown key ") ++? ending))))
      ⊎ ((Some (codes "bad config: ") ++? Some words ++? Some (codes "unknown key ") ++? quoted word ++? Some tail) ≡ None)
  key_or_none words = by_quoted (quoted_cases word shown front)
    where
      by_quoted : (quoted word ≡ debug_str shown) ⊎ (quoted word ≡ None)
          → ((Some (codes "bad config: ") ++? Some words ++? Some (codes "unknown key ") ++? quoted word ++? Some tail)
          ≡ (Some (codes "bad config: ") ++? (Some words ++? (Some (codes "unknown key ") ++? ending))))
          ⊎ ((Some (codes "bad config: ") ++? Some words ++? Some (codes "unknown key ") ++? quoted word ++? Some tail) ≡ None)
      by_quoted (inl same) =
          inl (ap (λ (it : Option (List ℕ)). Some (codes "bad config: ") ++? (Some words ++? (Some (codes "unknown key ") ++? (it ++? Some tail)))) same
          ∙ ap (λ (end : Option (List ℕ)). Some (codes "bad config: ") ++? (Some words ++? (Some (codes "unknown key ") ++? end))) (sym ends))
      by_quoted (inr none) =
          inr (ap (λ (it : Option (List ℕ)). Some (codes "bad config: ") ++? (Some words ++? (Some (codes "unknown key ") ++? (it ++? Some tail)))) none)

  pub key_said : {E : Type 0} (r : Result (String Global) E) (said : Option (List ℕ)) (words here : List ℕ) → IsText said words → here ≡ words
      → IfOk r (λ text. IfSome (Some (codes "bad config: ") ++? (Some here ++? (Some (codes "unknown key ") ++? ending))) (λ bytes. string_bytes text ≡ bytes))
      → IfOk r (λ text. IsText (Some (codes "bad config: ") ++? said ++? Some (codes "unknown key ") ++? quoted word ++? Some tail) (string_bytes text))
  key_said (Ok text) None words here is same whole = tt
  key_said {E} (Ok text) (Some said) words here is same whole =
      said_or_none {E = E} (Ok text) _ _ (key_or_none said) (rw (same ∙ is) at whole)
  key_said (Err error) said words here is same whole = tt

pub unknown_said : {E : Type 0} (r : Result (String Global) E) (table : Members) (place : Place) (number : ℕ) (meant : Option Key)
    → AreNearest (keys_of place) (key_number table place number) meant
    → IfOk r (λ text. IsText (Some (codes "bad config: ") ++? place_words table place ++? Some (codes "unknown key ")
    ++? quoted (key_number table place number) ++? Some (meant_words meant)) (string_bytes text))
    → IfOk r (λ text. IsUnknownLine table place number (string_bytes text))
unknown_said (Ok text) table place number meant near said = (meant, near, said)
unknown_said (Err error) table place number meant near said = tt

-- ---- A fault at a spot

pub told_other : (table : Members) (spot : Spot) (it : Wrong) → it ≢ wrong.Missing
    → told_of table spot it ≡ (Some (codes ": ") ++? wrong_words table spot it)
told_other table spot wrong.Missing other = absurd (other refl)
told_other table spot it other = refl

pub spot_said : {E : Type 0} (r : Result (String Global) E) (said told : Option (List ℕ)) (words what here : List ℕ) (why : List ℕ)
    → IsText said words → IsText told what → here ≡ words → why ≡ what
    → IfOk r (λ text. string_bytes text ≡ codes "bad config: " ++ (here ++ (codes ": " ++ why)))
    → IfOk r (λ text. IsText (Some (codes "bad config: ") ++? said ++? (Some (codes ": ") ++? told)) (string_bytes text))
spot_said (Ok text) None told words what here why is tells same same_why whole = tt
spot_said (Ok text) (Some said) None words what here why is tells same same_why whole = tt
spot_said (Ok text) (Some said) (Some told) words what here why is tells same same_why whole =
    whole ∙ ap (λ (front : List ℕ). codes "bad config: " ++ (front ++ (codes ": " ++ why))) (same ∙ is)
    ∙ ap (λ (end : List ℕ). codes "bad config: " ++ (said ++ (codes ": " ++ end))) (same_why ∙ tells)
spot_said (Err error) said told words what here why is tells same same_why whole = tt
