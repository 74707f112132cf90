use Rattle.std.proofs.Common.{◌∙◌, ap, arith}
use Rattle.relay_main.specs.TargetsDesk.{IsNumberIn}
use Rattle.relay_main.proofs.MoreLemmas.{has_another, has_none, has_still}
use Rattle.relay_main.proofs.targets_desk.add_numbers.Goals as goal
use Rattle.relay_main.proofs.targets_desk.add_numbers.Goals.{then-not-is_repeated+in_ok-push, else-not-is_repeated}

pub loop-place-init : goal.loop-place-init
loop-place-init c = has_none (IsNumberIn c.args.account c.args.targets.now) c.args.numbers.now.items

-- one that isn't repeated has its number put behind the others
pub loop-place-preserved : goal.loop-place-preserved
loop-place-preserved c =
    let test = c.loop-place-test.true in
    let few = c.min-place-end.ensures in
    let all = c.len.ensures in
    elim c.if-not-is_repeated.branch [
      | then-not-is_repeated+in_ok-push w ↦
          has_another (IsNumberIn c.args.account c.args.targets.now) c.args.numbers.now.items c.loop-place.numbers.items _
          w.target_number.result c.loop-place.invariant
          (ap (λ numbers. numbers.items) w.numbers-is ∙ w.in_ok-push.ensures.items)
          (c.loop-place.place, omega (arith, test, few, all), w.target_number.ensures)
      | else-not-is_repeated w ↦
          has_still (IsNumberIn c.args.account c.args.targets.now) c.args.numbers.now.items c.loop-place.numbers.items _
          c.loop-place.invariant (ap (λ numbers. numbers.items) w.numbers-is)
    ]
