use Rattle.std.proofs.Common.{◌≡◌, ◌∙◌, ◌<◌, ◌++◌, ap, arith, length, string_bytes}
use Rattle.relay_settings.proofs.ConvertedLemmas.{table_more}
use Rattle.relay_settings.proofs.conversion.written.Goals as goal

pub loop-rule-preserved : goal.loop-rule-preserved
loop-rule-preserved c =
    let within : c.loop-rule.rule-index < length c.args.rules.now = omega arith in
    let grown : string_bytes c.push_str.new.self ≡ string_bytes c.loop-rule.text ++ string_bytes c.in_ok-table.table =
    c.in_ok-push_str.ensures.bytes ∙ ap (λ table. string_bytes c.loop-rule.text ++ table) c.as_str.ensures.value in
    table_more c.args.rules.now c.loop-rule.rule-index c.rule-item.result (string_bytes c.loop-rule.text) (string_bytes c.push_str.new.self)
    (string_bytes c.in_ok-table.table) within c.rule-item.is c.loop-rule.invariant c.in_ok-table.ensures grown
