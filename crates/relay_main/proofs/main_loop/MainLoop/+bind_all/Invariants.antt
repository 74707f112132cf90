use Rattle.std.proofs.Common.{length}
use Rattle.relay_main.proofs.main_loop.MainLoop.+bind_all.Given as goal

abbrev pub decreases-bind_all : goal.decreases-bind_all
decreases-bind_all g l = length l.wanted.now
