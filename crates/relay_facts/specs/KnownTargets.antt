-- What is known at an address: of targets that were made before, or of those of the list before.
use Rattle.std.specs.Prelude.{List, [], Option, Some, None, find}
use Rattle.std.specs.Option.{option_and_then, option_or}
use Rattle.std.specs.declared.alloc.Global.{Global}
use Rattle.std.specs.declared.sync.Arc.{Arc}
use Rattle.relay_admin.specs.declared.rules.addr.Addr.{Addr}
use Rattle.relay_admin.specs.rules.Addr.{address_of, same_address}
use Rattle.relay_facts.specs.declared.shared_health.TargetHealth.{TargetHealth}
use Rattle.relay_facts.specs.declared.target_list.CountedTarget.{CountedTarget}
use Rattle.relay_facts.specs.declared.target_list.Targets.{Targets}

-- the first of these targets that is at this address
abbrev pub listed_at : Addr → List CountedTarget → Option CountedTarget
listed_at at all = find (λ one. same_address (address_of one.target.at) (address_of at)) all

-- that of a list, if there is a list
abbrev pub listed_before : Addr → Option Targets → Option CountedTarget
listed_before at before = option_and_then (λ list. listed_at at list.all.items) before

-- what is counted there: of the first of those that were made, else of the list of before
abbrev pub counted_at : List CountedTarget → Option Targets → Addr → Option CountedTarget
counted_at made before at = option_or (listed_at at made) (listed_before at before)

-- the health that is known there: of the same target, if that has one
abbrev pub known_at : List CountedTarget → Option Targets → Addr → Option (Arc TargetHealth Global)
known_at made before at = option_and_then (λ one. one.health) (counted_at made before at)
