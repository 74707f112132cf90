-- What a client that was accepted has of its rule.
use Rattle.std.specs.Prelude.{◌≡◌, ℕ, Bool, false, List, Option, Some, None, [], ◌∷◌, option_map, slice_get}
use Rattle.std.specs.Option.{option_map_or}
use Rattle.std.specs.Arc.{arc_value}
use Rattle.std.specs.Net.Addr.{ipv6_octets}
use Rattle.relay_admin.specs.declared.rules.addr.Addr.{Addr}
use Rattle.relay_admin.specs.declared.rules.addr.Addr.TheVariants as addr
use Rattle.relay_admin.specs.declared.rules.rule.Rule.{Rule}
use Rattle.relay_config.specs.declared.health.Checks.{Checks}
use Rattle.relay_facts.specs.Targets.{IsPick, are_checked, targets_of}
use Rattle.relay_facts.specs.declared.connection_facts.Acceptance.{Acceptance}
use Rattle.relay_facts.specs.declared.served_rule.Said.{Said}
use Rattle.relay_settings.specs.Targets.{own_target}
use Rattle.relay_settings.specs.declared.targets.Target.{Target}
use Rattle.relay_facts.specs.declared.target_list.Targets.{Targets}
use Rattle.target_pick.specs.Source.{source_number}
use Rattle.target_pick.specs.declared.tried.Tried.{Tried}

-- what its rule said as it was accepted
abbrev pub said_then : Acceptance → Said
said_then acceptance = arc_value acceptance.said

-- the other is the same client, of whom the same is known
pub record IsSameClient (one other : Acceptance) : Type 0 where
  pub served : arc_value other.served ≡ arc_value one.served
  pub said : said_then other ≡ said_then one
  pub client : other.client ≡ one.client
  pub accepted_at : other.accepted_at ≡ one.accepted_at
  pub at : other.at ≡ one.at

-- the list of targets that stood at its accept, if its rule had one
abbrev pub list_in : Acceptance → Option Targets
list_in acceptance = option_map arc_value (said_then acceptance).targets

-- a rule without a list has its own target alone
abbrev pub targets_with : Option Targets → Rule → List Target
targets_with None rule = own_target rule ∷ []
targets_with (Some list) rule = targets_of list

-- how the targets of a list are checked; a rule without a list isn't
abbrev pub checks_with : Option Targets → Option Checks
checks_with None = None
checks_with (Some list) = list.checks

-- they are checked, if there is a list
abbrev pub checked_with : Option Targets → Bool
checked_with None = false
checked_with (Some list) = are_checked list

-- the targets of its rule are checked
abbrev pub checked_in : Acceptance → Bool
checked_in acceptance = checked_with (list_in acceptance)

-- the targets of its rule
abbrev pub targets_in : Acceptance → List Target
targets_in acceptance = targets_with (list_in acceptance) (said_then acceptance).rule

-- the address of the target at a place, and that of the rule's own where there is none
abbrev pub address_in : Acceptance → ℕ → Addr
address_in acceptance place =
    option_map_or (λ target. target.at) (slice_get (targets_in acceptance) place)
    (said_then acceptance).rule.target

-- the address is that of a target of its rule; which one, the loops note in an atomic, which no
-- proof knows
abbrev pub IsTargetOf : Acceptance → Addr → Type 0
IsTargetOf acceptance address = (place : ℕ) × (address ≡ address_in acceptance place)

-- the number of a client, by its address without port and scope
abbrev pub source_of : Option Addr → ℕ
source_of (Some (addr.Tcp bytes port)) = source_number bytes
source_of (Some (addr.Tcp6 ip scope port)) = source_number (ipv6_octets ip)
source_of other = source_number []

-- the place is the pick of the list's balance, by some turn
abbrev pub IsPicked : Targets → Tried → ℕ → ℕ → Type 0
IsPicked list tried source place =
    (turn : ℕ) × IsPick list tried turn source place
