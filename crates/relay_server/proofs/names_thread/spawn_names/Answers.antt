use denote.Param.Send.{sendable}
use Rattle.relay_server.proofs.SharedCrosses.{names_send}
use Rattle.relay_server.proofs.names_thread.spawn_names.Goals as goal

pub spawn-requires-send-F : goal.spawn-requires-send-F
spawn-requires-send-F g c κs within = search (names_send, sendable) depth 20
