use Rattle.std.proofs.Common.{rules}
use Rattle.lockword.proofs.LookSteps.{asks}
use Rattle.lockword.proofs.holders.LockWord.is_done.Goals as goal

pub load-requires : goal.load-requires
load-requires g c = (search rules, search rules, asks _ _ _ _ _)
