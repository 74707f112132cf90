use Rattle.std.proofs.Common.{length}
use Rattle.relay_settings.proofs.conversion.+say_rules.Given as goal

abbrev pub decreases-say_rules : goal.decreases-say_rules
decreases-say_rules l = length l.said.now
