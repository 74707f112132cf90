use Rattle.std.proofs.Common.{◌≡◌, None, take}
use Rattle.std.specs.List.{fold}
use Rattle.relay_facts.specs.HostNames.{sooner}
use Rattle.relay_facts.proofs.host_names.HostNames.next.Given as goal

abbrev pub invariant-loop-due : goal.invariant-loop-due
invariant-loop-due l = l.first ≡ fold (sooner l.now) None (take l.due-index l.fn.self.wanted.items)
