use Rattle.std.proofs.Common.{◌++◌, ap, string_bytes}
use Rattle.std.specs.Prelude.{codes}
use Rattle.std.specs.Fmt.{decimal}
use Rattle.toml.specs.View.{table_view}
use Rattle.relay_config.specs.Line.{from_one, place_words, rule_words}
use Rattle.relay_config.proofs.Said.{said_behind, same_said}
use Rattle.relay_config.proofs.line.place_words.Goals as goal

pub returns-in_ok-rule-in-Target : goal.returns-in_ok-rule-in-Target
returns-in_ok-rule-in-Target c =
    let table = table_view c.args.table.now in
    same_said c.format.result _ _ (ap (place_words table) c.in-Target.is)
    (said_behind c.format.result (rule_words table c.in-Target.rule) (string_bytes c.in_ok-rule-in-Target.rule) c.as_str-rule.result.now
    (codes "target " ++ from_one c.in-Target.target ++ codes ": ")
    (codes "target " ++ decimal c.saturating_add-number.result ++ codes ": ")
    c.in_ok-rule-in-Target.ensures c.as_str-rule.ensures.value
    (ap (λ number. codes "target " ++ decimal number ++ codes ": ") c.saturating_add-number.ensures) c.format.ensures.ok)
