use Rattle.std.proofs.Common.{◌≤◌}
use Rattle.relay_main.proofs.main_loop.MainLoop.number_accounts.Given as goal

abbrev pub invariant-loop-served : goal.invariant-loop-served
invariant-loop-served g l = l.initial.numbered ≤ l.numbered
