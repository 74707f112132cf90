use Rattle.std.proofs.Common.{◌∙◌, ap, subst, sym}
use Rattle.relay_shared.specs.Index.{register_of, IsRegister, without}
use Rattle.relay_shared.proofs.IndexLists.{removed_is_without, consistent_without}
use Rattle.relay_shared.proofs.index.Index.leave.Goals as goal

pub invariant_of-self : goal.invariant_of-self
invariant_of-self g c =
    subst (λ entries. IsRegister (register_of entries c.self.inside.next_id))
    (sym (c.remove.ensures.entries
    ∙ removed_is_without c.args.id c.self.inside.entries.entries c.self.invariant.rising))
    (consistent_without (register_of c.self.inside.entries.entries c.self.inside.next_id) c.args.id c.self.invariant)

pub returns-clause-left : goal.returns-clause-left
returns-clause-left g c =
    ap (λ entries. register_of entries c.self.inside.next_id) (c.remove.ensures.entries
    ∙ removed_is_without c.args.id c.self.inside.entries.entries c.self.invariant.rising)
    ∙ ap (λ old. register_of (without c.args.id old.entries) old.next_id) c.self.view_is
