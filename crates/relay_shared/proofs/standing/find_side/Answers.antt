use Rattle.std.proofs.Common.{ap, subst, inr}
use Rattle.relay_shared.specs.Index.{IsNamed}
use Rattle.relay_shared.proofs.standing.find_side.Goals as goal

pub returns-in-Some-default-Connection-clause-there :
    goal.returns-in-Some-default-Connection-clause-there
returns-in-Some-default-Connection-clause-there c =
    let found = c.in-Some-default-Connection in (
      found.side,
      found.connected,
      subst (λ standing. IsNamed c.args.index.now c.args.id found.side standing) found.field-0-1-is found.ensures.found,
      ap (λ facts. facts.loop_place) c.deref.ensures,
      c.token_on.ensures,
    )

pub returns-in-Some-default-Listener-clause-none :
    goal.returns-in-Some-default-Listener-clause-none
returns-in-Some-default-Listener-clause-none c =
    let found = c.in-Some-default-Listener in
    inr (
      found.field-0-0,
      found.field-0-1-0,
      subst (λ standing. IsNamed c.args.index.now c.args.id found.field-0-0 standing) found.field-0-1-is found.ensures.found,
    )
