use Rattle.std.proofs.Common.{◌∙◌, ◌++◌, sym, ap}
use Rattle.std.specs.Map.{keys_of}
use Rattle.conntable.specs.ConnTable.{ids_of}
use Rattle.conntable.specs.Slots.{entries_at}
use Rattle.conntable.proofs.SlotLemmas.{keys_of-lines}
use Rattle.conntable.proofs.table.ConnTable.ids.Goals as goal

pub loop-id-init : goal.loop-id-init
loop-id-init g c =
    let es = entries_at c.self.inside.slots c.self.inside.index.entries in
    sym (ap (λ t. ids_of t.entries) c.self.view_is)
    ∙ sym (keys_of-lines c.self.invariant.1.place es)
    ∙ sym (ap keys_of c.self.invariant.1.indexed)
    ∙ sym (c.into_iter-id-iterator.ensures.into_iter_gives ∙ c.keys-id-items.ensures.rest)
    ∙ sym (ap (λ l. l ++ c.into_iter-id-iterator.result) c.new-ids.ensures.items)
