-- What the reader of a rule line answers is exactly the grammar.
use Rattle.std.proofs.Common.{◌≡◌, ◌∙◌, sym, ap, List, ℕ, Some, None, Option}
use Rattle.std.specs.Prelude.{IfSome, IfNone}
use Rattle.relay_admin.specs.rules.Grammar.{Entry, SpellsRule, entry_of}
use Rattle.relay_admin.specs.TextReading.{Views}
use Rattle.relay_admin.specs.rules.Reading.{rule_at}
use Rattle.relay_admin.specs.declared.rules.rule.Rule.{Rule}
use Rattle.relay_admin.proofs.rules.Sound.{rule_sound}
use Rattle.relay_admin.proofs.rules.Complete.{rule_complete}

pub rule_is : (rule : Option Rule) (line : List ℕ) → Views entry_of rule (rule_at line)
    → IfSome rule (λ rule. SpellsRule line (entry_of rule))
rule_is (Some rule) line is = rule_sound line (entry_of rule) is
rule_is None line is = tt

pub no_rule : (rule : Option Rule) (line : List ℕ) → Views entry_of rule (rule_at line)
    → IfNone rule ((entry : Entry) → SpellsRule line entry → ⊥)
no_rule (Some rule) line is = tt
no_rule None line is = λ entry spells. let read : Some entry ≡ None = sym (rule_complete entry spells.fits)
    ∙ sym (ap rule_at spells.text) ∙ is in absurd (cc)
