-- The addresses at which a rule listens.
use Rattle.std.specs.Prelude.{List, [], ◌∷◌, Option, Some, None, option_map}
use Rattle.std.specs.Arc.{arc_value}
use Rattle.relay_admin.specs.declared.rules.addr.Addr.{Addr}
use Rattle.relay_admin.specs.declared.rules.rule.Rule.{Rule}
use Rattle.relay_facts.specs.declared.listens.Addresses.{Addresses}
use Rattle.relay_facts.specs.declared.served_rule.Said.{Said}

-- a rule without a list listens at its own address alone
abbrev pub listens_with : Option Addresses → Rule → List Addr
listens_with None rule = rule.listen ∷ []
listens_with (Some list) rule = list.all.items

-- where a rule listens that says this
abbrev pub listens_in : Said → List Addr
listens_in said = listens_with (option_map arc_value said.listens) said.rule
