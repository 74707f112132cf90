use Rattle.std.proofs.Common.{vec_len}
use Rattle.relay_main.proofs.main_loop.MainLoop.dial_checks.Given as goal

abbrev pub decreases-loop-token : goal.decreases-loop-token
decreases-loop-token g l = vec_len l.self.host.due
