use Rattle.std.specs.Prelude.{length}
use Rattle.relay_command.proofs.soft_limit.+allowed_by.Given as goal

abbrev pub decreases-allowed_by : goal.decreases-allowed_by
decreases-allowed_by l = length l.limits.now
