-- What a string has for a text, byte by byte.
use Rattle.std.proofs.Common.{◌≡◌, subst, refl, inl, inr, ℕ, ◌+◌, ◌*◌, ◌/◌, ◌%◌, ◌<◌, List, [], ◌∷◌, ◌++◌, Bool, true, false, arith}
use Rattle.std.specs.Prelude.{◌==◌, ◌||◌, nat_lt, if◌then◌else◌}
use Rattle.std.proofs.lemmas.Bool.{ltb-true, ltb-false, eqb-true, eqb-false}
use Rattle.relay_log.specs.Json.{control_text, string_content}
use Rattle.relay_log.specs.Spelled.{SpellsText, nothing, itself, behind_backslash, by_number, EachTextIsSpelled}

-- a control character is spelled by its number
control_spelled : (byte : ℕ) (characters text : List ℕ) → byte < 32 → SpellsText characters text
    → SpellsText (control_text byte ++ characters) (byte ∷ text)
control_spelled byte characters text low rest =
    let number : 16 * (byte / 16) + byte % 16 ≡ byte = omega arith in
    subst (λ (n : ℕ). SpellsText (control_text byte ++ characters) (n ∷ text)) number
    (by_number (byte / 16) (byte % 16) (omega (arith, low)) (omega arith) rest)

-- a byte is spelled, by what it is
spelled_by : (control quote backslash : Bool) (byte : ℕ) (characters text : List ℕ) → nat_lt byte 32 ≡ control
    → (byte == 34) ≡ quote → (byte == 92) ≡ backslash → SpellsText characters text
    → SpellsText ((if control then control_text byte else if quote || backslash then 92 ∷ byte ∷ [] else byte ∷ []) ++ characters) (byte ∷ text)
spelled_by true quote backslash byte characters text low _ _ rest = control_spelled byte characters text (ltb-true byte 32 low) rest
spelled_by false true backslash byte characters text _ is _ rest = behind_backslash byte (inl (eqb-true byte 34 is)) rest
spelled_by false false true byte characters text _ _ is rest = behind_backslash byte (inr (eqb-true byte 92 is)) rest
spelled_by false false false byte characters text high no_quote no_backslash rest =
    itself byte (ltb-false byte 32 high) (eqb-false byte 34 no_quote) (eqb-false byte 92 no_backslash) rest

pub each_text_is_spelled : EachTextIsSpelled
each_text_is_spelled [] = nothing
each_text_is_spelled (byte ∷ text) =
    spelled_by (nat_lt byte 32) (byte == 34) (byte == 92) byte (string_content text) text refl refl refl (each_text_is_spelled text)
