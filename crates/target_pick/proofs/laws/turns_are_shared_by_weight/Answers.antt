use Rattle.target_pick.proofs.Owners.{only_shares_have_turns}
use Rattle.target_pick.proofs.Turns.{each_has_its_share}
use Rattle.target_pick.proofs.laws.turns_are_shared_by_weight.Goals as goal

pub returns : goal.returns
returns c = record { shares = each_has_its_share; owners = only_shares_have_turns }
