use Rattle.std.proofs.Common.{ap, arith, length, length-append}
use Rattle.stream_base.proofs.LineReaderLemmas.{line_found, line_grown, line_is_long}
use Rattle.lockword_script.specs.declared.script.TheConstants.{MAX_LINE_BYTES}
use Rattle.lockword_script.specs.Progress.{ahead_of, progress_of}
use Rattle.lockword_script.proofs.ProgressLemmas.{ran_all, ran_more, ran_none, ran_partly, ran_to_bad_line}
use Rattle.lockword_script.proofs.ProgressLemmas.{ran_to_long_line, ready_next}
use Rattle.lockword_script.proofs.script_run.ScriptRun.run_lines.Goals as goal

pub lines-init : goal.lines-init
lines-init c = record {
  ready = c.requires;
  ran = ran_none (progress_of c.args.self.now) (ahead_of c.args.self.now) c.args.out.now.items;
}

-- no line is left

pub returns-in-Unended-clause-ready : goal.returns-in-Unended-clause-ready
returns-in-Unended-clause-ready c =
    let self = c.lines.self in
    let i = c.lines.invariant in
    let grows = line_grown MAX_LINE_BYTES self.lines c.find_line.new.self i.ready.unended c.in-Unended.ensures.found in
    let all =
    ran_all (progress_of c.args.self.now) self.number self.machine self.lines c.find_line.new.self
    (ahead_of c.args.self.now)
    c.args.out.now.items c.lines.out.items i.ran grows in
    (record { numbered = i.ready.numbered; short = c.find_line.ensures.fits; unended = grows.unended }, all.0)

pub returns-in-Unended-clause-goes : goal.returns-in-Unended-clause-goes
returns-in-Unended-clause-goes c =
    let self = c.lines.self in
    let i = c.lines.invariant in
    let grows = line_grown MAX_LINE_BYTES self.lines c.find_line.new.self i.ready.unended c.in-Unended.ensures.found in
    let all =
    ran_all (progress_of c.args.self.now) self.number self.machine self.lines c.find_line.new.self
    (ahead_of c.args.self.now)
    c.args.out.now.items c.lines.out.items i.ran grows in
    all.1

-- a line that is too long

pub returns-in-Ok-clause-stops : goal.returns-in-Ok-clause-stops
returns-in-Ok-clause-stops c =
    let self = c.lines.self in
    let i = c.lines.invariant in
    let long = line_is_long MAX_LINE_BYTES self.lines c.find_line.new.self i.ready.unended c.in-TooLong.ensures.found in
    ran_to_long_line (progress_of c.args.self.now) self.number self.machine self.lines (ahead_of c.args.self.now)
    c.args.out.now.items c.lines.out.items c.refuse.new.out.items i.ran long c.in-Ok.ensures.ok

pub returns-in-Err-clause-err : goal.returns-in-Err-clause-err
returns-in-Err-clause-err c =
    ran_partly (progress_of c.args.self.now) (progress_of c.lines.self) (ahead_of c.args.self.now)
    (ahead_of c.lines.self)
    c.args.out.now.items c.lines.out.items c.refuse.new.out.items c.lines.invariant.ran c.in-Err.ensures.err

-- a line

pub lines-preserved : goal.lines-preserved
lines-preserved c =
    let self = c.lines.self in
    let i = c.lines.invariant in
    let l = line_found MAX_LINE_BYTES self.lines c.find_line.new.self i.ready.unended c.in-Line.ensures.found in
    let g = rw c.in-Ok-None.field-0-is at c.in-Ok-None.ensures.good in
    let same = rw c.in-Ok-None.field-0-is at c.in-Ok-None.ensures.ahead in
    record {
      ready = ready_next self.number (progress_of c.end_line.new.self) _ g.3 g.5;
      ran =
          ran_more (progress_of c.args.self.now) self.number self.machine (progress_of c.end_line.new.self) self.lines
          c.find_line.new.self (ahead_of c.args.self.now) (ahead_of c.end_line.new.self) c.args.out.now.items
          c.lines.out.items
          c.end_line.new.out.items g.0 g.1 g.2 i.ran l c.find_line.ensures.fits g.3 g.4 g.5 g.6 same;
    }

pub lines-smaller : goal.lines-smaller
lines-smaller c =
    let self = c.lines.self in
    let l =
    line_found MAX_LINE_BYTES self.lines c.find_line.new.self c.lines.invariant.ready.unended c.in-Line.ensures.found in
    let same = rw c.in-Ok-None.field-0-is at c.in-Ok-None.ensures.ahead in
    omega (arith, ap length l.cut, length-append l.bytes c.find_line.new.self.ahead, l.some, ap length same)

pub returns-in-Ok-Some-clause-stops : goal.returns-in-Ok-Some-clause-stops
returns-in-Ok-Some-clause-stops c =
    let self = c.lines.self in
    let i = c.lines.invariant in
    let l = line_found MAX_LINE_BYTES self.lines c.find_line.new.self i.ready.unended c.in-Line.ensures.found in
    let g = rw c.in-Ok-Some.field-0-is at c.in-Ok-Some.ensures.bad in
    ran_to_bad_line (progress_of c.args.self.now) self.number self.machine self.lines c.find_line.new.self
    (ahead_of c.args.self.now)
    c.args.out.now.items c.lines.out.items c.end_line.new.out.items c.in-Ok-Some.number i.ran l g.0 g.1 g.2

pub returns-in-Err-end_line-clause-err : goal.returns-in-Err-end_line-clause-err
returns-in-Err-end_line-clause-err c =
    ran_partly (progress_of c.args.self.now) (progress_of c.lines.self) (ahead_of c.args.self.now)
    (ahead_of c.lines.self)
    c.args.out.now.items c.lines.out.items c.end_line.new.out.items c.lines.invariant.ran c.in-Err-end_line.ensures.err
