use Rattle.std.proofs.Common.{not, rules}
use Rattle.std.proofs.lemmas.Fn.{filter_same}
use Rattle.std.specs.Arc.{arc_value}
use Rattle.std.specs.declared.alloc.Global.{Global}
use Rattle.std.specs.declared.sync.Arc.{Arc}
use Rattle.relay_facts.specs.declared.served_rule.ServedRule.{ServedRule}
use Rattle.relay_main.specs.Accounts.{is_listened_at}
use Rattle.relay_main.proofs.accounts.without_rules.Goals as goal

pub returns : goal.returns
returns c =
    filter_same _ (λ (account : Arc ServedRule Global).
    not (is_listened_at (arc_value account).listen c.args.rules.now)) _
    (λ x b f' k. search rules) _ _ c.retain.ensures.filtered
