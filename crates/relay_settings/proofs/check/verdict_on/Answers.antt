use Rattle.std.proofs.Common.{◌∙◌, ap, sym, length, min, ℕ, ◌-◌, ◌^◌}
use Rattle.std.proofs.lemmas.List.{length-map}
use Rattle.relay_settings.specs.Meaning.{said_entry, said_rule_entry}
use Rattle.relay_settings.proofs.check.verdict_on.Goals as goal

pub returns-in-Ok : goal.returns-in-Ok
returns-in-Ok c = (
  said_entry c.in-Ok.said,
  c.in-Ok.ensures.said,
  c.rule_count.ensures
      ∙ ap (λ (n : ℕ). min n (2 ^ 32 - 1)) (ap length c.as_slice.ensures.value ∙ sym (length-map c.in-Ok.said.rules.items said_rule_entry)),
)
