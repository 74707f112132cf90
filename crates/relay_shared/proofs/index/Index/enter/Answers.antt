use Rattle.std.proofs.Common.{◌∙◌, ◌+◌, refl, subst, ap}
use Rattle.relay_shared.specs.Index.{register_of, EntersIndex}
use Rattle.relay_shared.proofs.IndexLists.{inserted_last, consistent_last}
use Rattle.relay_shared.proofs.index.Index.enter.Goals as goal

pub invariant_of-self : goal.invariant_of-self
invariant_of-self g c =
    consistent_last (register_of c.self.inside.entries.entries c.self.inside.next_id)
    (register_of c.insert.new.self.entries c.in-Some.next) c.self.inside.next_id c.args.standing c.self.invariant
    (record {
      given = refl;
      entries = c.in-Ok.ensures.entries
          ∙ inserted_last c.self.inside.entries.entries c.self.inside.next_id c.args.standing c.self.invariant.given;
      next_id = c.in-Some.ensures.1 ∙ ap (λ n. c.self.inside.next_id + n) c.ids.ensures;
    })

pub returns-in-Ok-clause-entered : goal.returns-in-Ok-clause-entered
returns-in-Ok-clause-entered g c =
    subst (λ old. EntersIndex old (register_of c.insert.new.self.entries c.in-Some.next) c.self.inside.next_id
    c.args.standing) c.self.view_is
    (record {
      given = refl;
      entries = c.in-Ok.ensures.entries
          ∙ inserted_last c.self.inside.entries.entries c.self.inside.next_id c.args.standing c.self.invariant.given;
      next_id = c.in-Some.ensures.1 ∙ ap (λ n. c.self.inside.next_id + n) c.ids.ensures;
    })
