use Rattle.std.proofs.Common.{◌≡◌, ◌∙◌, ap, sym, Some}
use Rattle.std.specs.Option.{option_and_then}
use Rattle.toml.specs.Data.{as_array, get_item}
use Rattle.toml.specs.View.{array_view, items_view, table_view, view}
use Rattle.relay_config.specs.Reading.{at_key}
use Rattle.relay_config.proofs.Tables.{item_found}
use Rattle.relay_config.proofs.looked_up.item_of.Goals as goal

pub returns : goal.returns
returns c =
    let at : at_key c.args.key (table_view c.args.table.now) ≡ Some (view c.in_ok-value_at.field-0.now) =
    sym (rw c.in_ok-value_at.was at c.value_at.ensures) in
    let items : as_array (view c.in_ok-value_at.field-0.now) ≡ Some (array_view c.in_ok-as_array.field-0.now) =
    sym (rw c.in_ok-as_array.was at c.as_array.ensures) in
    item_found c.get.result c.deref.result.now c.args.number c.get.ensures.lookup
    ∙ ap (λ vs. get_item c.args.number (items_view vs)) c.deref.ensures.value
    ∙ sym (ap (λ value. option_and_then (get_item c.args.number) (option_and_then as_array value)) at
    ∙ ap (option_and_then (get_item c.args.number)) items)
