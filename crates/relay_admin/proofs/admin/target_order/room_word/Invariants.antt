use Rattle.std.proofs.Common.{◌≡◌, ◌++◌, take, drop}
use Rattle.relay_admin.specs.admin.TargetOrder.{room_word}
use Rattle.relay_admin.proofs.admin.target_order.room_word.Given as goal

abbrev pub invariant-loop-at : goal.invariant-loop-at
invariant-loop-at l = room_word l.room ≡ take l.at l.room ++ room_word (drop l.at l.room)
