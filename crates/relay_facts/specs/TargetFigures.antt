-- What the metrics tell of a rule's targets, and in which order.
use Rattle.std.specs.Prelude.{◌≡◌, ◌++◌, ℕ, zero, suc, List, [], if◌then◌else◌, map, length, option_map, slice_get}
use Rattle.std.specs.Arc.{arc_value}
use Rattle.std.specs.Option.{option_map_or, option_to_list}
use Rattle.relay_admin.specs.rules.Addr.{address_of, address_text}
use Rattle.relay_facts.specs.Targets.{is_repeated, targets_of}
use Rattle.relay_facts.specs.declared.served_rule.Said.{Said}
use Rattle.relay_metrics.specs.declared.figures.TargetFigures.{TargetFigures}
use Rattle.relay_settings.specs.declared.targets.Target.{Target}

-- whose figures they are: the name of a rule, and the address of a target
abbrev pub whose : TargetFigures → List ℕ × List ℕ
whose figures = (figures.rule.bytes, figures.target.bytes)

-- those of this target are
abbrev pub of_target : List ℕ → Target → List ℕ × List ℕ
of_target rule target = (rule, address_text (address_of target.at))

-- the target at a place, unless one ahead of it has its address
abbrev pub own_at : List Target → ℕ → List Target
own_at targets place =
    if is_repeated targets place then [] else option_to_list (slice_get targets place)

-- of so many targets, from the first on, each address once
abbrev pub each_once : List Target → ℕ → List Target
each_once targets zero = []
each_once targets (suc count) = each_once targets count ++ own_at targets count

-- behind the old figures stand those of so many targets of this rule, in their order
abbrev pub TellsFirst : List ℕ → List Target → ℕ → List TargetFigures → List TargetFigures → Type 0
TellsFirst rule targets count old new = (more : List TargetFigures) × (new ≡ old ++ more)
    × (map whose more ≡ map (of_target rule) (each_once targets count))

-- behind them stand those of all its targets
abbrev pub TellsOf : List ℕ → List Target → List TargetFigures → List TargetFigures → Type 0
TellsOf rule targets = TellsFirst rule targets (length targets)

-- behind them stand those of all targets of what a rule says, if that has a list
abbrev pub TellsOfSaid : Said → List TargetFigures → List TargetFigures → Type 0
TellsOfSaid said = TellsOf said.rule.name.bytes (option_map_or targets_of (option_map arc_value said.targets) [])
