use Rattle.std.proofs.Common.{◌≡◌}
use Rattle.lockword_core.specs.Replay.{state_after}
use Rattle.lockword_script.specs.Script.{events_of}
use Rattle.lockword_script.proofs.script_run.answer_last.Given as goal

-- as many events are carried out
abbrev pub invariant-loop-done : goal.invariant-loop-done
invariant-loop-done l = l.machine ≡ state_after l.initial.machine (events_of l.order.first l.done l.order.op)
