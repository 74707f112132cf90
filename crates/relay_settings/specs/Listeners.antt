-- The addresses at which rules listen.
use Rattle.std.specs.Prelude.{◌-◌, ◌^◌, ℕ, List, length, min, sum_by}
use Rattle.relay_settings.specs.declared.targets.SaidRule.{SaidRule}

-- how many addresses a rule has beyond its first
abbrev pub further_of : SaidRule → ℕ
further_of said = length said.listens.items - 1

-- how many rules have so, as far as a number of 32 bits tells it
abbrev pub further_listeners : List SaidRule → ℕ
further_listeners rules = min (sum_by further_of rules) (2 ^ 32 - 1)
