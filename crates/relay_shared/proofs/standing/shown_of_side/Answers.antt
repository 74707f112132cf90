use Rattle.std.proofs.Common.{◌∙◌, ap, subst, sym, inr}
use Rattle.relay_facts.specs.Acceptance.{said_then}
use Rattle.relay_shared.specs.Index.{IsNamed}
use Rattle.relay_shared.specs.declared.index.Standing.TheVariants.{Connection}
use Rattle.relay_shared.proofs.standing.shown_of_side.Goals as goal

pub returns-in-Some-default-Connection-clause-side :
    goal.returns-in-Some-default-Connection-clause-side
returns-in-Some-default-Connection-clause-side c =
    let found = c.in-Some-default-Connection in (
      found.connected,
      subst (λ side. IsNamed c.args.index.now c.args.id side (Connection found.connected))
          (sym c.shown_side.ensures.side)
          (subst (λ standing. IsNamed c.args.index.now c.args.id found.side standing) found.field-0-1-is found.ensures.found),
      sym (c.shown_side.ensures.rule ∙ ap (λ facts. (said_then facts.acceptance).rule.name) c.deref.ensures),
    )

pub returns-in-Some-default-Listener-clause-none :
    goal.returns-in-Some-default-Listener-clause-none
returns-in-Some-default-Listener-clause-none c =
    let found = c.in-Some-default-Listener in
    inr (
      found.field-0-0,
      found.field-0-1-0,
      subst (λ standing. IsNamed c.args.index.now c.args.id found.field-0-0 standing) found.field-0-1-is found.ensures.found,
    )
