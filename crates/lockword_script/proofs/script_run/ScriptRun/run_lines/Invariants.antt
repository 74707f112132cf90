use Rattle.std.proofs.Common.{length}
use Rattle.lockword_script.specs.Progress.{ahead_of, progress_of, IsReady}
use Rattle.lockword_script.proofs.ProgressLemmas.{Ran}
use Rattle.lockword_script.proofs.script_run.ScriptRun.run_lines.Given as goal

abbrev pub invariant-lines : goal.invariant-lines
invariant-lines l = record {
  ready : IsReady (progress_of l.self);
  ran :
      Ran (progress_of l.initial.self) (progress_of l.self) (ahead_of l.initial.self) (ahead_of l.self)
      l.initial.out.items l.out.items;
}

abbrev pub decreases-lines : goal.decreases-lines
decreases-lines l = length (ahead_of l.self)
