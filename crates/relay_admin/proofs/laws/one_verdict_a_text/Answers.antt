use Rattle.relay_admin.proofs.rules.OneVerdict.{one_rule, one_list_of_rules, one_fault, no_rules_with_fault}
use Rattle.relay_admin.proofs.laws.one_verdict_a_text.Goals as goal

pub returns : goal.returns
returns c = record { line = one_rule; rules = one_list_of_rules; fault = one_fault; either = no_rules_with_fault }
