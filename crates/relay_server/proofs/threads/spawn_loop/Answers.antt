use denote.Param.Send.{sendable}
use Rattle.relay_server.proofs.SharedCrosses.{start_send}
use Rattle.relay_server.proofs.threads.spawn_loop.Goals as goal

pub spawn-requires-send-F : goal.spawn-requires-send-F
spawn-requires-send-F g c κs within = search (start_send, sendable) depth 20
