-- Which texts spell a port.
use Rattle.std.proofs.Common.{◌≡◌, ◌∙◌, ◌<◌, ◌≤◌, ◌^◌, ℕ, List, sym, ap, arith}
use Rattle.std.specs.Fmt.{decimal}
use Rattle.std.specs.Str.Parse.{digits_value}
use Rattle.std.proofs.lemmas.Fmt.{decimal_is_IsNumeral}
use Rattle.net.specs.Host.{SpellsNoPort}

-- the spelling of a greater number spells no port
pub too_great : (text : List ℕ) (number : ℕ) → text ≡ decimal number → number < 2 ^ 64
    → 2 ^ 16 ≤ number → SpellsNoPort text
too_great text number is fits great port small spelled =
    let value : digits_value 10 (decimal number) ≡ number = (decimal_is_IsNumeral number fits).1 in
    let port_value : digits_value 10 (decimal port) ≡ port =
    (decimal_is_IsNumeral port (omega arith)).1 in
    let same : number ≡ port =
    sym value ∙ ap (digits_value 10) (sym is ∙ spelled) ∙ port_value
    in absurd (omega arith)
