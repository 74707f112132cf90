use Rattle.std.proofs.Common.{◌≡◌, ◌++◌, map, take}
use Rattle.relay_main.specs.WantedListeners.{wanted_at}
use Rattle.relay_main.proofs.wanted_listeners.add_each.Given as goal

abbrev pub invariant-loop-listen : goal.invariant-loop-listen
invariant-loop-listen l =
    l.all.items ≡ l.initial.all.items ++ map (wanted_at l.said) (take l.listen-index l.listens)
