use Rattle.std.proofs.Common.{◌≡◌, take}
use Rattle.relay_main.specs.ReloadPlan.{to_bind, to_keep}
use Rattle.relay_main.proofs.reload_plan.listener_plan.Given as goal

abbrev pub invariant-loop-one : goal.invariant-loop-one
invariant-loop-one l = record {
  bind : l.bind.items ≡ to_bind l.standing (take l.one-index l.wanted);
  keep : l.keep.items ≡ to_keep l.standing (take l.one-index l.wanted);
}
