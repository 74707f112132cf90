use Rattle.std.proofs.Common.{◌-◌}
use Rattle.listen_fds.specs.Numbers.{next_number, number_behind}
use Rattle.pollrelay.proofs.given.listeners_among.Given as goal

abbrev pub decreases-loop-given : goal.decreases-loop-given
decreases-loop-given g l = number_behind l.sockets - next_number l.sockets
