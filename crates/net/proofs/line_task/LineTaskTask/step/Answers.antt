-- What a step does is one thing after the other.
use Rattle.std.proofs.Common.{refl, inl, inr}
use Rattle.net.specs.LineTask.{Rounds}
use Rattle.net.proofs.line_task.LineTaskTask.step.Goals as goal

pub rounds-init : goal.rounds-init
rounds-init g c = Rounds.none

pub returns-in-Some : goal.returns-in-Some
returns-in-Some g c = record {
  stepped = record { last = c.rounds.self; rounds = c.rounds.invariant; ends = inl c.in-Some.ensures };
}

pub rounds-preserved : goal.rounds-preserved
rounds-preserved g c = Rounds.more c.rounds.invariant c.in_default.ensures

pub returns : goal.returns
returns g c = record {
  stepped = record { last = c.rounds.self; rounds = c.rounds.invariant; ends = inr (refl, refl) };
}
