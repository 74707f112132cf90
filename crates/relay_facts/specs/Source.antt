-- What the file of a relay says.
use Rattle.std.specs.Prelude.{◌≡◌, ℕ, List, map}
use Rattle.relay_admin.specs.rules.Fault.{SaysRules}
use Rattle.relay_admin.specs.declared.rules.rule.Rule.{Rule}
use Rattle.relay_admin.specs.rules.Grammar.{entries_of, entry_of}
use Rattle.relay_settings.specs.Conversion.{rule_alone}
use Rattle.relay_settings.specs.Meaning.{SaidRuleEntry, SaysAll, said_entry, said_rule_entry}
use Rattle.relay_settings.specs.Settings.{SaysNothing}
use Rattle.relay_settings.specs.declared.asked.Source.{Source}
use Rattle.relay_settings.specs.declared.asked.Source.TheVariants as source
use Rattle.relay_settings.specs.declared.said.Said.{Said}
use Rattle.relay_settings.specs.declared.settings.Settings.{Settings}
use Rattle.relay_settings.specs.declared.targets.SaidRule.{SaidRule}

-- a rules file says no settings
abbrev pub SaysNoSettings : Source → Settings → Type 0
SaysNoSettings (source.Rules path) settings = SaysNothing settings
SaysNoSettings (source.Config path) settings = Unit {0}

-- the rules, without their targets
abbrev pub rules_said : List SaidRule → List Rule
rules_said all = map (λ said. said.rule) all

-- a rule that has its own target alone
abbrev pub entry_alone : Rule → SaidRuleEntry
entry_alone rule = rule_alone (entry_of rule)

-- the text is a rules file with these rules, each of which has its own target alone
abbrev pub SaysTheseRules : List ℕ → List SaidRule → Type 0
SaysTheseRules text all = (rules : List Rule) × SaysRules text (entries_of rules)
    × (map said_rule_entry all ≡ map entry_alone rules)

-- a file with this text says it: a rules file rules alone, a configuration settings too
abbrev pub IsSaidBy : Source → List ℕ → Said → Type 0
IsSaidBy (source.Rules path) text said =
    SaysTheseRules text said.rules.items × SaysNothing said.settings
IsSaidBy (source.Config path) text said = SaysAll text (said_entry said)

-- some text says it, as a file of that form
abbrev pub FileSays : Source → Said → Type 0
FileSays source said = (text : List ℕ) × IsSaidBy source text said
