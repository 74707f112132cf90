use Rattle.std.proofs.Common.{◌≡◌, take}
use Rattle.relay_settings.specs.Listeners.{further_listeners}
use Rattle.relay_settings.proofs.listeners.further_listeners.Given as goal

abbrev pub invariant-loop-said : goal.invariant-loop-said
invariant-loop-said l = l.count ≡ further_listeners (take l.said-index l.rules)
