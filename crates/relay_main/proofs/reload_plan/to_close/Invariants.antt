use Rattle.std.proofs.Common.{◌≡◌, take}
use Rattle.relay_main.specs.RuleListeners.{to_close}
use Rattle.relay_main.proofs.reload_plan.to_close.Given as goal

abbrev pub invariant-loop-one : goal.invariant-loop-one
invariant-loop-one l = l.close.items ≡ to_close l.wanted (take l.one-index l.known)
