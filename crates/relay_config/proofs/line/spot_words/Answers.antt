use Rattle.std.proofs.Common.{◌∙◌, ◌++◌, ap, append-nil, string_bytes, sym}
use Rattle.std.specs.Prelude.{codes}
use Rattle.std.specs.Fmt.{decimal}
use Rattle.toml.specs.View.{table_view}
use Rattle.relay_config.specs.Fault.{key_word}
use Rattle.relay_config.specs.Line.{item_words, place_words}
use Rattle.relay_config.proofs.Said.{said_behind}
use Rattle.relay_config.proofs.line.spot_words.Goals as goal

pub returns-in-Some : goal.returns-in-Some
returns-in-Some c =
    let key = key_word c.args.spot.key in
    said_behind c.format.result (place_words (table_view c.args.table.now) c.args.spot.place) (string_bytes c.in_ok-here.here) c.as_str-here.result.now
    (key ++ item_words c.args.spot.item) (c.word-key.result.now ++ (codes " " ++ decimal c.saturating_add-number.result))
    c.in_ok-here.ensures c.as_str-here.ensures.value
    (ap (λ word. word ++ (codes " " ++ decimal c.saturating_add-number.result)) c.word-key.ensures
    ∙ ap (λ number. key ++ (codes " " ++ decimal number)) c.saturating_add-number.ensures
    ∙ ap (λ item. key ++ item_words item) (sym c.in-Some.is)) c.format.ensures.ok

pub returns : goal.returns
returns c =
    let key = key_word c.args.spot.key in
    said_behind c.format-in-None.result (place_words (table_view c.args.table.now) c.args.spot.place) (string_bytes c.in_ok-here.here) c.as_str-here.result.now
    (key ++ item_words c.args.spot.item) c.word-key.result.now c.in_ok-here.ensures c.as_str-here.ensures.value
    (c.word-key.ensures ∙ sym (append-nil key) ∙ ap (λ item. key ++ item_words item) (sym c.in-None.is)) c.format-in-None.ensures.ok
