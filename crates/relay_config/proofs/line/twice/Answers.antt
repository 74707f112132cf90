use Rattle.std.proofs.Common.{rules}
use Rattle.relay_config.proofs.Said.{twice_other}
use Rattle.relay_config.proofs.line.twice.Goals as goal

pub returns-in_default : goal.returns-in_default
returns-in_default c = rw (twice_other c.args.key c.in_default.not-Name) (search rules)
