use Rattle.std.proofs.Common.{refl, ap, arith, inr, length, length-append}
use Rattle.stream_base.proofs.KnownBytesLemmas.{keeps_itself}
use Rattle.stream_base.proofs.LineReaderLemmas.{line_found, line_grown, line_is_long}
use Rattle.relay_admin.specs.declared.admin.dialogue.TheConstants.{MAX_LINE_BYTES}
use Rattle.relay_admin.specs.declared.admin.end.AdminEnd.TheVariants as ends
use Rattle.relay_admin.specs.admin.Transcript.{ended, cut_off}
use Rattle.relay_admin.specs.admin.Progress.{position, ahead_of}
use Rattle.relay_workers.proofs.AnsweringLemmas.{answered_all, answered_closes, answered_closes_long, answered_more}
use Rattle.relay_workers.proofs.AnsweringLemmas.{answered_none, long_breaks, long_closes}
use Rattle.relay_admin.proofs.SessionLemmas.{ready_next}
use Rattle.relay_workers.proofs.SessionEnds.{flushed_then}
use Rattle.relay_workers.proofs.answering.answer_lines.Goals as goal

pub answers-init : goal.answers-init
answers-init g c = record {
  ready = c.requires.ready;
  uninterrupted = c.requires.uninterrupted;
  flushed = inr (keeps_itself _, refl);
  same = g.met.K.Sink.stays_itself _;
  answered = answered_none (position c.args.dialogue.now) (ahead_of c.args.dialogue.now) _ _;
}

-- no line is left
pub returns-in-Unended-clause-does : goal.returns-in-Unended-clause-does
returns-in-Unended-clause-does g c =
    let self = c.answers.dialogue in
    let ready = c.answers.invariant.ready in
    let grows = line_grown MAX_LINE_BYTES self.lines c.find_line.new.self ready.unended c.in-Unended.ensures.found in
    let all =
    answered_all (position c.args.dialogue.now) self.number self.lines c.find_line.new.self
    (ahead_of c.args.dialogue.now) _ _ _ _
    c.answers.invariant.answered grows in
    (record { numbered = ready.numbered; short = c.find_line.ensures.fits; unended = grows.unended }, all.0, all.1)

-- a line that is too long, and its reply
pub returns-in-Ok-clause-does : goal.returns-in-Ok-clause-does
returns-in-Ok-clause-does g c =
    let self = c.answers.dialogue in
    let i = c.answers.invariant in
    let long = line_is_long MAX_LINE_BYTES self.lines c.find_line.new.self i.ready.unended c.in-TooLong.ensures.found in
    let closes = long_closes self.number self.lines.held self.lines.ahead _ _ _ long c.in-Ok.ensures.ok in (
      λ e. absurd (cc),
      answered_closes_long (position c.args.dialogue.now) self.number self.lines (ahead_of c.args.dialogue.now) _ _ _ _ _ _
          (ended ends.TooLong) i.answered closes,
    )

-- a line that is too long, and no reply
pub returns-in-Err-clause-does : goal.returns-in-Err-clause-does
returns-in-Err-clause-does g c =
    let self = c.answers.dialogue in
    let i = c.answers.invariant in
    let long = line_is_long MAX_LINE_BYTES self.lines c.find_line.new.self i.ready.unended c.in-TooLong.ensures.found in
    let closes = long_breaks self.number self.lines.held self.lines.ahead _ _ _ long c.in-Err.ensures.front in
    answered_closes_long (position c.args.dialogue.now) self.number self.lines (ahead_of c.args.dialogue.now) _ _ _ _ _ _
    cut_off i.answered closes

-- a line

pub end_line-requires-clause-ready : goal.end_line-requires-clause-ready
end_line-requires-clause-ready g c =
    let self = c.answers.dialogue in
    let ready = c.answers.invariant.ready in
    let l = line_found MAX_LINE_BYTES self.lines c.find_line.new.self ready.unended c.in-Line.ensures.found in
    record { numbered = ready.numbered; short = c.find_line.ensures.fits; unended = l.unended }

pub answers-preserved : goal.answers-preserved
answers-preserved g c =
    let self = c.answers.dialogue in
    let i = c.answers.invariant in
    let l = line_found MAX_LINE_BYTES self.lines c.find_line.new.self i.ready.unended c.in-Line.ensures.found in
    let d = c.in-GoesOn.ensures.does in
    record {
      ready = ready_next self.number (position c.end_line.new.dialogue) d.0 d.1;
      uninterrupted = c.in-GoesOn.ensures.sink.0;
      flushed = flushed_then _ _ _ _ _ _ i.flushed c.in-GoesOn.ensures.sink.1;
      same = g.met.K.Sink.stays_on _ _ _ i.same c.in-GoesOn.ensures.same;
      answered =
          answered_more (position c.args.dialogue.now) self.number (position c.end_line.new.dialogue) self.lines
          c.find_line.new.self
          (ahead_of c.args.dialogue.now) (ahead_of c.end_line.new.dialogue) _ _ _ _ _ _ i.answered l c.find_line.ensures.fits
          d.0 d.1 c.in-GoesOn.ensures.ahead d.2;
    }

pub answers-smaller : goal.answers-smaller
answers-smaller g c =
    let self = c.answers.dialogue in
    let l =
    line_found MAX_LINE_BYTES self.lines c.find_line.new.self c.answers.invariant.ready.unended
    c.in-Line.ensures.found in
    omega (
      arith,
      ap length l.cut,
      length-append l.bytes c.find_line.new.self.ahead,
      l.some,
      ap length
          c.in-GoesOn.ensures.ahead,
    )

pub returns-in-Ended-clause-does : goal.returns-in-Ended-clause-does
returns-in-Ended-clause-does g c =
    let self = c.answers.dialogue in
    let i = c.answers.invariant in
    let l = line_found MAX_LINE_BYTES self.lines c.find_line.new.self i.ready.unended c.in-Line.ensures.found in
    let d = c.in-Ended.ensures.does in (
      d.0,
      answered_closes (position c.args.dialogue.now) self.number self.lines c.find_line.new.self
          (ahead_of c.args.dialogue.now) _ _ _ _ _ _
          (ended c.in-Ended.end) i.answered l d.1,
    )

pub returns-in-CutOff-clause-does : goal.returns-in-CutOff-clause-does
returns-in-CutOff-clause-does g c =
    let self = c.answers.dialogue in
    let i = c.answers.invariant in
    let l = line_found MAX_LINE_BYTES self.lines c.find_line.new.self i.ready.unended c.in-Line.ensures.found in
    answered_closes (position c.args.dialogue.now) self.number self.lines c.find_line.new.self
    (ahead_of c.args.dialogue.now) _ _ _ _ _ _
    cut_off i.answered l c.in-CutOff.ensures.does
