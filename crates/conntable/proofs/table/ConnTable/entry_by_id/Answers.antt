use Rattle.std.proofs.Common.{◌∙◌, ap, sym, option_copied}
use Rattle.conntable.specs.ConnTable.{entry_with_id}
use Rattle.conntable.specs.Slots.{entries_at}
use Rattle.conntable.proofs.SlotLemmas.{by_id_at, by_id_none}
use Rattle.conntable.proofs.table.ConnTable.entry_by_id.Goals as goal

pub returns-in_err-place : goal.returns-in_err-place
returns-in_err-place g c =
    let es = entries_at c.self.inside.slots c.self.inside.index.entries in
    ap option_copied c.from_residual.ensures
    ∙ sym (by_id_none c.self.inside.slots c.self.inside.index.entries es c.args.id
    c.self.invariant.1 (sym c.in_err-place.ensures.value))
    ∙ ap (λ t. entry_with_id c.args.id t.entries) c.self.view_is

pub returns : goal.returns
returns g c =
    let es = entries_at c.self.inside.slots c.self.inside.index.entries in
    let there = by_id_at c.self.inside.slots c.self.inside.index.entries es c.args.id c.in_ok-place.field-0.now
    c.self.invariant.1 (sym c.in_ok-place.ensures.value) in
    c.get-2.ensures ∙ there.2 ∙ sym there.1 ∙ ap (λ t. entry_with_id c.args.id t.entries) c.self.view_is
