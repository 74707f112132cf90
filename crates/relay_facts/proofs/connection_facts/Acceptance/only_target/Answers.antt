use Rattle.std.proofs.Common.{◌∙◌, ap, sym, subst, false}
use Rattle.relay_facts.specs.Acceptance.{checked_with, said_then, targets_with}
use Rattle.relay_facts.specs.Targets.{IsNext, IsNoneLeft}
use Rattle.relay_facts.specs.declared.served_rule.Said.{Said}
use Rattle.relay_facts.specs.declared.target_list.Picked.{Picked}
use Rattle.relay_settings.specs.Targets.{own_target}
use Rattle.relay_facts.proofs.TargetsLemmas.{only_tried}
use Rattle.relay_facts.proofs.connection_facts.Acceptance.only_target.Goals as goal

pub returns-then-has-clause-none : goal.returns-then-has-clause-none
returns-then-has-clause-none c =
    subst (λ list. IsNoneLeft (checked_with list) (targets_with list (said_then c.args.self.now).rule) c.args.tried false) (sym c.requires)
    (only_tried (own_target (said_then c.args.self.now).rule) c.args.tried (sym c.has.ensures ∙ c.if-has.true))

pub returns-clause-next : goal.returns-clause-next
returns-clause-next c =
    let picked : Picked = record { place = 0; at = c.deref.result.now.rule.target; tried = c.with.result; others = 0 } in
    subst (λ list. IsNext (checked_with list) (targets_with list (said_then c.args.self.now).rule) c.args.tried picked) (sym c.requires)
    (record {
      address = sym (ap (λ (said : Said). said.rule.target) c.deref.ensures);
      fresh = sym c.has.ensures ∙ c.if-has.false;
      marked = c.with.ensures.own;
      others = c.with.ensures.others;
      fewer = c.with.ensures.fewer (sym c.has.ensures ∙ c.if-has.false);
      last = λ _. (false, only_tried (own_target (said_then c.args.self.now).rule) c.with.result c.with.ensures.own);
    })
