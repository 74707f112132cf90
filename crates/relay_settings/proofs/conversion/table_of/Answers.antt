use Rattle.std.proofs.Common.{◌∙◌, string_bytes}
use Rattle.relay_admin.specs.rules.Grammar.{entry_of}
use Rattle.relay_settings.proofs.ConvertedLemmas.{table_said}
use Rattle.relay_settings.proofs.conversion.table_of.Goals as goal

pub returns : goal.returns
returns c =
    table_said (entry_of c.args.rule.now) c.as_str-name.result.now c.as_str-listen.result.now c.as_str-target.result.now c.as_str-idle.result.now
    (string_bytes c.in_ok-format.field-0) c.as_str-name.ensures.value (c.as_str-listen.ensures.value ∙ c.text-listen.ensures)
    (c.as_str-target.ensures.value ∙ c.text-target.ensures) (c.as_str-idle.ensures.value ∙ c.in_ok-idle.ensures) c.in_ok-format.ensures.ok
