use Rattle.relay_main.specs.More.{HasMore}
use Rattle.relay_main.specs.TargetsDesk.{IsNumberIn}
use Rattle.relay_main.proofs.targets_desk.add_numbers.Given as goal

abbrev pub invariant-loop-place : goal.invariant-loop-place
invariant-loop-place l = HasMore (IsNumberIn l.account l.targets) l.initial.numbers.items l.numbers.items
