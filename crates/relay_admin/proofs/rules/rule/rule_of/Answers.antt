use Rattle.relay_admin.proofs.rules.Lines.{rule_is, no_rule}
use Rattle.relay_admin.proofs.rules.rule.rule_of.Goals as goal

pub returns-clause-rule : goal.returns-clause-rule
returns-clause-rule c = rule_is _ _ c.read_rule.ensures

pub returns-clause-none : goal.returns-clause-none
returns-clause-none c = no_rule _ _ c.read_rule.ensures
