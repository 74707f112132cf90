use Rattle.std.proofs.Common.{rules}
use Rattle.relay_main.proofs.opening.listener_in.Goals as goal

pub returns-clause-entered : goal.returns-clause-entered
returns-clause-entered g c = (c.in_ok-known.known, search rules, search rules)
