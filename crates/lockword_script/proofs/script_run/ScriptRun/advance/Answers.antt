use Rattle.std.proofs.Common.{◌≡◌, ◌<◌, length, arith, []}
use Rattle.lockword_script.specs.Progress.{ahead_of, progress_of}
use Rattle.lockword_script.proofs.ProgressLemmas.{empty_of_length, leads_to_end, bad_line_leads_to_end}
use Rattle.lockword_script.proofs.ProgressLemmas.{leads_partly_nowhere}
use Rattle.lockword_script.proofs.script_run.ScriptRun.advance.Goals as goal

pub returns-in-Ok-clause-ends : goal.returns-in-Ok-clause-ends
returns-in-Ok-clause-ends c =
    let none : ahead_of c.args.self.now ≡ [] =
    empty_of_length (ahead_of c.args.self.now) (omega (arith, c.requires.count, c.if-count-eq0.true)) in
    let finished = c.in-Ok.ensures.ok in
    leads_to_end (progress_of c.args.self.now) (ahead_of c.args.self.now) c.args.out.now.items c.finish.new.out.items
    finished.0
    c.in-Ok.end none finished.1 finished.2

pub returns-in-Err-clause-err : goal.returns-in-Err-clause-err
returns-in-Err-clause-err c =
    leads_partly_nowhere (progress_of c.args.self.now) (ahead_of c.args.self.now) c.args.out.now.items
    c.finish.new.out.items
    c.in-Err.ensures.err

pub returns-in-Ok-None-clause-ready : goal.returns-in-Ok-None-clause-ready
returns-in-Ok-None-clause-ready c =
    let some : 0 < length (ahead_of c.args.self.now) = omega (arith, c.requires.count, c.if-count-eq0.false) in
    let ready = rw c.in-Ok-None.field-0-is at c.in-Ok-None.ensures.ready in
    (ready.0, omega (arith, ready.1, some))

pub returns-in-Ok-Some-clause-ends : goal.returns-in-Ok-Some-clause-ends
returns-in-Ok-Some-clause-ends c =
    let stops = rw c.in-Ok-Some.field-0-is at c.in-Ok-Some.ensures.stops in
    bad_line_leads_to_end (progress_of c.args.self.now) (ahead_of c.args.self.now) c.args.out.now.items
    c.run_lines.new.out.items
    c.in-Ok-Some.number stops
