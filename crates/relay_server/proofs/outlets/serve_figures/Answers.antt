use denote.Param.Send.{sendable}
use Rattle.std.proofs.Crossing.{crosses}
use Rattle.relay_server.proofs.SharedCrosses.{shared_send, shared_sync}
use Rattle.relay_server.proofs.outlets.serve_figures.Goals as goal

pub start-requires-send-M : goal.start-requires-send-M
start-requires-send-M g c κs within = search (shared_send, shared_sync, sendable, crosses) depth 20 fits 10000

pub start-requires-sync-M : goal.start-requires-sync-M
start-requires-sync-M g c κs within = search (shared_send, shared_sync, sendable, crosses) depth 20 fits 10000
