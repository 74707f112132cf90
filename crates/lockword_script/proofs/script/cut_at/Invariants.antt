use Rattle.std.proofs.Common.{take}
use Rattle.stream_base.specs.Lines.{Lacks}
use Rattle.lockword_script.proofs.script.cut_at.Given as goal

abbrev pub invariant-loop-i : goal.invariant-loop-i
invariant-loop-i l = Lacks l.byte (take l.i l.text)
