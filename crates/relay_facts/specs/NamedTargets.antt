-- The targets of a rule that names hosts.
use Rattle.std.specs.Prelude.{◌≡◌, ◌+◌, ◌==◌, ℕ, List, [], ◌∷◌, ◌++◌, Option, Some, None, IfSome, find, map, option_map, take}
use Rattle.std.specs.Arc.{arc_value}
use Rattle.std.specs.declared.alloc.Global.{Global}
use Rattle.std.specs.declared.sync.Arc.{Arc}
use Rattle.relay_admin.specs.declared.rules.addr.Addr.{Addr}
use Rattle.relay_admin.specs.declared.rules.addr.Addr.TheVariants as addr
use Rattle.relay_settings.specs.declared.targets.Named.{Named}
use Rattle.relay_settings.specs.declared.targets.SaidRule.{SaidRule}
use Rattle.relay_settings.specs.declared.targets.Target.{Target}
use Rattle.relay_facts.specs.HostAnswers.{addresses_at}
use Rattle.relay_facts.specs.declared.host_answers.Answer.{Answer}
use Rattle.relay_facts.specs.declared.named_list.NamedTargets.{NamedTargets}

-- an address of a host, with a port
abbrev pub with_port : Addr → ℕ → Addr
with_port (addr.Tcp bytes before) port = addr.Tcp bytes port
with_port (addr.Tcp6 ip scope before) port = addr.Tcp6 ip scope port
with_port (addr.Unix path) port = addr.Unix path

-- a target that names its host, at an address of that
abbrev pub found_target : Named → Addr → Target
found_target named at = record { at = with_port at named.port; weight = named.weight; is_backup = named.is_backup }

-- the targets at a host's addresses; before it has one, the target as its file says it, which gets nobody
abbrev pub found_at : Named → Target → List Addr → List Target
found_at named target [] = target ∷ []
found_at named target (first ∷ others) = map (found_target named) (first ∷ others)

-- what the target at a place says of its host, where it names one
abbrev pub named_at : List Named → ℕ → Option Named
named_at names place = find (λ (one : Named). one.place == place) names

-- what stands in the place of the target at a place
abbrev pub targets_by : List Answer → Option Named → Target → List Target
targets_by answers None target = target ∷ []
targets_by answers (Some named) target = found_at named target (addresses_at answers named.host.bytes)

abbrev pub targets_at : List Answer → List Named → ℕ → Target → List Target
targets_at answers names place target = targets_by answers (named_at names place) target

-- the same of all, from a place on
abbrev pub targets_from : List Answer → List Named → ℕ → List Target → List Target
targets_from answers names place [] = []
targets_from answers names place (first ∷ others) =
    targets_at answers names place first ++ targets_from answers names (place + 1) others

-- the targets of a rule by these answers: the first 64
abbrev pub looked_up : List Answer → List Named → List Target → List Target
looked_up answers names targets = take 64 (targets_from answers names 0 targets)

-- the same of a rule as its file says it; where it names no host, the targets of the file
abbrev pub by_answers : List Answer → List Named → List Target → List Target
by_answers answers [] targets = targets
by_answers answers (first ∷ others) targets = looked_up answers (first ∷ others) targets

-- the names of hosts that a rule has by its list; without a list it names none
abbrev pub names_in : Option NamedTargets → List Named
names_in None = []
names_in (Some named) = named.names.items

-- a list of what the file says of a rule's targets, where some name their hosts
pub record IsListOf (said : SaidRule) (named : NamedTargets) : Type 0 where
  pub targets : named.targets.items ≡ said.targets.items
  pub resolve : named.resolve_ms ≡ said.resolve_ms

pub record AreNamedOf (said : SaidRule) (named : Option (Arc NamedTargets Global)) : Type 0 where
  pub hosts : names_in (option_map arc_value named) ≡ said.names.items
  pub names : IfSome named (λ list. IsListOf said (arc_value list))
