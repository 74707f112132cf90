use Rattle.std.proofs.Common.{◌++◌, [], None, Some, ap, string_bytes}
use Rattle.std.specs.Prelude.{codes}
use Rattle.std.specs.Fmt.{◌++?◌, debug_str}
use Rattle.toml.specs.View.{table_view}
use Rattle.relay_config.specs.Fronts.{IsLongestFront}
use Rattle.relay_config.specs.Line.{meant_words, place_words}
use Rattle.relay_config.specs.LookedUp.{AreNearest, key_number, keys_of}
use Rattle.relay_config.specs.declared.line.TheConstants.{MAX_SHOWN_BYTES}
use Rattle.relay_config.proofs.Said.{key_said, nothing_behind, unknown_said}
use Rattle.relay_config.proofs.line.unknown_line.Goals as goal

pub returns-in-Some : goal.returns-in-Some
returns-in-Some c =
    let table = table_view c.args.table.now in
    let word = key_number table c.args.place c.args.number in
    let shown = c.cut-shown.result.now in
    let front : IsLongestFront MAX_SHOWN_BYTES word shown = rw c.key_number-word.ensures at c.cut-shown.ensures in
    let near : AreNearest (keys_of c.args.place) word (Some c.in-Some.key) =
    rw (c.keys_of.ensures, c.key_number-word.ensures, c.in-Some.is) at c.in_ok-key.ensures in
    let ending = debug_str shown ++? Some (codes "; \"" ++ (c.word-key.result.now ++ codes "\" is meant?")) in
    unknown_said c.format.result table c.args.place c.args.number (Some c.in-Some.key) near
    (key_said word shown (meant_words (Some c.in-Some.key)) ending front
    (ap (λ key. debug_str shown ++? Some (codes "; \"" ++ (key ++ codes "\" is meant?"))) c.word-key.ensures)
    c.format.result (place_words table c.args.place) (string_bytes c.in_ok-here.here) c.as_str-here.result.now c.in_ok-here.ensures c.as_str-here.ensures.value c.format.ensures.ok)

pub returns : goal.returns
returns c =
    let table = table_view c.args.table.now in
    let word = key_number table c.args.place c.args.number in
    let shown = c.cut-shown.result.now in
    let front : IsLongestFront MAX_SHOWN_BYTES word shown = rw c.key_number-word.ensures at c.cut-shown.ensures in
    let near : AreNearest (keys_of c.args.place) word None =
    rw (c.keys_of.ensures, c.key_number-word.ensures, c.in-None.is) at c.in_ok-key.ensures in
    unknown_said c.format-in-None.result table c.args.place c.args.number None near
    (key_said word shown [] (debug_str shown) front (nothing_behind (debug_str shown))
    c.format-in-None.result (place_words table c.args.place) (string_bytes c.in_ok-here.here) c.as_str-here.result.now c.in_ok-here.ensures c.as_str-here.ensures.value c.format-in-None.ensures.ok)
