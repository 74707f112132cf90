use Rattle.std.proofs.Common.{is_ok, refl}
use Rattle.metrics_server.proofs.DeskLemmas.{stands_as_before, stands_pushed}
use Rattle.metrics_server.proofs.desk.Desk.accept.Goals as goal

pub loop-init : goal.loop-init
loop-init g c = record { kept = stands_as_before _; clients = refl }

pub loop-preserved : goal.loop-preserved
loop-preserved g c = record {
  kept = stands_pushed (is_ok c.push.result) _ _ _ _ c.loop.invariant.kept c.push.ensures.items;
  clients = c.loop.invariant.clients;
}
