use Rattle.relay_config.proofs.Nearest.{FoundIn}
use Rattle.relay_config.proofs.looked_up.nearest.Given as goal

abbrev pub invariant-loop-key : goal.invariant-loop-key
invariant-loop-key l = FoundIn l.known l.key-index l.word l.best l.least
