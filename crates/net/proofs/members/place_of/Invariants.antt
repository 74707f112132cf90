use Rattle.net.specs.Members.{LacksNumber}
use Rattle.net.proofs.members.place_of.Given as goal

-- it isn't among those that were looked at
abbrev pub invariant-loop-at : goal.invariant-loop-at
invariant-loop-at l = LacksNumber l.number l.at l.numbers
