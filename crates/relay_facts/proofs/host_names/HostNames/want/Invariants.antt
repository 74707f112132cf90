use Rattle.std.proofs.Common.{◌≡◌, map, take}
use Rattle.relay_facts.specs.declared.host_names.DueName.{DueName}
use Rattle.relay_facts.proofs.host_names.HostNames.want.Given as goal

abbrev pub invariant-loop-name : goal.invariant-loop-name
invariant-loop-name l = map (λ (due : DueName). due.name) l.wanted.items ≡ take l.name-index l.names
