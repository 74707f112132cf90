use Rattle.target_pick.proofs.Shares.{tried_once, tries_allow_nothing}
use Rattle.target_pick.proofs.laws.no_target_is_tried_twice.Goals as goal

pub returns : goal.returns
returns c = record { once = tried_once; others = tries_allow_nothing }
