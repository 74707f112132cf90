use Rattle.std.proofs.Common.{rules}
use Rattle.lockword.proofs.SplitSteps.{splits}
use Rattle.lockword.proofs.holders.LockWord.split_held.Goals as goal

pub split_seat-other-requires : goal.split_seat-other-requires
split_seat-other-requires g c = (search rules, search rules, splits _ _ _ _)
