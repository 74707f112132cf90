use Rattle.std.proofs.Common.{◌∙◌, ◌++◌, ◌∷◌, [], sym, ap, subst, refl, IsSome}
use Rattle.std.specs.Vec.{vec_capacity}
use Rattle.conntable.specs.ConnTable.{HasNoId}
use Rattle.conntable.specs.Slots.{entries_at, IsSound}
use Rattle.conntable.proofs.SlotLemmas.{by_id_none, by_id_at, unknown}
use Rattle.conntable.proofs.StepLemmas.{removed}
use Rattle.conntable.proofs.table.ConnTable.remove.Goals as goal

pub returns-in_default-clause-unknown : goal.returns-in_default-clause-unknown
returns-in_default-clause-unknown g c =
    let es = entries_at c.self.inside.slots c.self.inside.index.entries in
    subst (λ t. HasNoId c.args.id t.entries) c.self.view_is
    (unknown c.args.id es (by_id_none c.self.inside.slots c.self.inside.index.entries es c.args.id
    c.self.invariant.1 (sym c.in_default.ensures.value)))

pub remove-token-requires : goal.remove-token-requires
remove-token-requires g c =
    let es = entries_at c.self.inside.slots c.self.inside.index.entries in
    let there = by_id_at c.self.inside.slots c.self.inside.index.entries es c.args.id c.in-Some.place
    c.self.invariant.1 (sym c.in-Some.ensures.value) in
    subst IsSome (sym there.2) refl

pub invariant_of-self-2 : goal.invariant_of-self-2
invariant_of-self-2 g c =
    let left = (removed c.self.inside.slots c.remove-token.new.self
    c.self.inside.index.entries c.remove.new.self.entries c.self.inside.free.items c.push_reserved.new.self.items
    (vec_capacity c.self.inside.free) c.self.inside.next_id c.args.id c.in-Some.place
    c.args.self.now c.remove-token.result c.self.view_is c.self.invariant
    (sym c.in-Some.ensures.value) c.in-Some.ensures.entries
    c.remove-token.ensures.value c.remove-token.ensures.updates
    (c.push_reserved.ensures.items ∙ ap (λ k. c.self.inside.free.items ++ k ∷ []) c.key_in.ensures.key)).0.0 in
    subst (λ room. IsSound c.remove-token.new.self c.remove.new.self.entries c.push_reserved.new.self.items room
    c.self.inside.next_id) (sym c.push_reserved.ensures.capacity) left

pub returns-clause-removed : goal.returns-clause-removed
returns-clause-removed g c =
    (removed c.self.inside.slots c.remove-token.new.self
    c.self.inside.index.entries c.remove.new.self.entries c.self.inside.free.items c.push_reserved.new.self.items
    (vec_capacity c.self.inside.free) c.self.inside.next_id c.args.id c.in-Some.place
    c.args.self.now c.remove-token.result c.self.view_is c.self.invariant
    (sym c.in-Some.ensures.value) c.in-Some.ensures.entries
    c.remove-token.ensures.value c.remove-token.ensures.updates
    (c.push_reserved.ensures.items ∙ ap (λ k. c.self.inside.free.items ++ k ∷ []) c.key_in.ensures.key)).0.1
