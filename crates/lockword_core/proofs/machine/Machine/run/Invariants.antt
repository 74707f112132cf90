use Rattle.std.proofs.Common.{◌≡◌}
use Rattle.lockword_core.proofs.Words.{take, state_after, answers_of}
use Rattle.lockword_core.proofs.machine.Machine.run.Given as goal

abbrev pub invariant-loop-done : goal.invariant-loop-done
invariant-loop-done l = record {
  state : l.self ≡ state_after l.initial.self (take l.done l.events);
  answers : l.answers.items ≡ answers_of l.initial.self (take l.done l.events);
}
