use Rattle.std.proofs.Common.{◌≡◌, length}
use Rattle.relay_main.proofs.main_loop.MainLoop.said.Given as goal

abbrev pub invariant-loop-served : goal.invariant-loop-served
invariant-loop-served g l = length l.all.items ≡ l.served-index
