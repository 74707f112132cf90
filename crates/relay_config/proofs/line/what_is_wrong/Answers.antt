use Rattle.std.proofs.Common.{◌++◌, ap, refl, string_bytes}
use Rattle.std.specs.Prelude.{codes}
use Rattle.toml.specs.View.{table_view}
use Rattle.relay_config.specs.Line.{IsText, shown, twice_words, wrong_words}
use Rattle.relay_config.specs.LookedUp.{value_at_spot}
use Rattle.relay_config.specs.Wanted.{wanted, wanted_type}
use Rattle.relay_config.proofs.Said.{said_behind, same_said}
use Rattle.relay_config.proofs.line.what_is_wrong.Goals as goal

pub returns-in-Type : goal.returns-in-Type
returns-in-Type c =
    let value = value_at_spot (table_view c.args.table.now) c.args.spot in
    let told : IsText (shown value) (string_bytes c.in_ok-value.value) = rw c.value_of.ensures at c.in_ok-value.ensures in
    same_said c.format.result _ _ (ap (wrong_words (table_view c.args.table.now) c.args.spot) c.in-Type.is)
    (said_behind c.format.result (shown value) (string_bytes c.in_ok-value.value) c.as_str-value.result.now
    (codes " is not " ++ wanted_type c.args.spot) (codes " is not " ++ c.wanted_type-wanted.result.now) told c.as_str-value.ensures.value
    (ap (λ words. codes " is not " ++ words) c.wanted_type-wanted.ensures) c.format.ensures.ok)

pub returns-in-Value : goal.returns-in-Value
returns-in-Value c =
    let value = value_at_spot (table_view c.args.table.now) c.args.spot in
    let told : IsText (shown value) (string_bytes c.in_ok-value.value) = rw c.value_of.ensures at c.in_ok-value.ensures in
    same_said c.format-in-Value.result _ _ (ap (wrong_words (table_view c.args.table.now) c.args.spot) c.in-Value.is)
    (said_behind c.format-in-Value.result (shown value) (string_bytes c.in_ok-value.value) c.as_str-value.result.now
    (codes " is " ++ wanted c.args.spot.key) (codes " is " ++ c.wanted-wanted.result.now) told c.as_str-value.ensures.value
    (ap (λ words. codes " is " ++ words) c.wanted-wanted.ensures) c.format-in-Value.ensures.ok)

pub returns-in-Twice : goal.returns-in-Twice
returns-in-Twice c =
    let value = value_at_spot (table_view c.args.table.now) c.args.spot in
    let told : IsText (shown value) (string_bytes c.in_ok-value.value) = rw c.value_of.ensures at c.in_ok-value.ensures in
    same_said c.twice.result _ _ (ap (wrong_words (table_view c.args.table.now) c.args.spot) c.in-Twice.is)
    (said_behind c.twice.result (shown value) (string_bytes c.in_ok-value.value) c.as_str-value.result.now
    (twice_words c.args.spot.key) (twice_words c.args.spot.key) told c.as_str-value.ensures.value refl c.twice.ensures)
