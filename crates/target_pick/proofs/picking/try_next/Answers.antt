use Rattle.std.proofs.Common.{false}
use Rattle.target_pick.proofs.Shares.{set_tried}
use Rattle.target_pick.proofs.picking.try_next.Goals as goal

pub returns-clause-marked : goal.returns-clause-marked
returns-clause-marked c =
    set_tried c.args.targets.now c.in_ok-at.at
    (record { weight = 0; is_backup = false; is_up = false; is_drained = false; was_tried = false; connections = 0 })
