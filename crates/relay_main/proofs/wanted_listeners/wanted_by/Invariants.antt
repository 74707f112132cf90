use Rattle.std.proofs.Common.{◌≡◌, take}
use Rattle.relay_main.specs.WantedListeners.{wanted_by}
use Rattle.relay_main.proofs.wanted_listeners.wanted_by.Given as goal

abbrev pub invariant-loop-said : goal.invariant-loop-said
invariant-loop-said l = l.wanted.items ≡ wanted_by (take l.said-index l.all)
