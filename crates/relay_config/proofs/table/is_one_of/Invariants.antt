use Rattle.std.proofs.Common.{◌≡◌, drop}
use Rattle.relay_config.specs.Reading.{is_one_of}
use Rattle.relay_config.proofs.table.is_one_of.Given as goal

abbrev pub invariant-loop-key : goal.invariant-loop-key
invariant-loop-key l = is_one_of l.known l.word ≡ is_one_of (drop l.key-index l.known) l.word
