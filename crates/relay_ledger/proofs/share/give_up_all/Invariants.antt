use Rattle.std.proofs.Common.{vec_len}
use Rattle.relay_ledger.proofs.share.give_up_all.Given as goal

abbrev pub decreases-loop-share : goal.decreases-loop-share
decreases-loop-share g l = vec_len l.left
