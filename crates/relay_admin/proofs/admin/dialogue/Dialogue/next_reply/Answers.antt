use Rattle.stream_base.proofs.LineReaderLemmas.{line_found, line_grown, line_is_long, long_unended}
use Rattle.relay_admin.specs.declared.admin.dialogue.TheConstants.{MAX_LINE_BYTES}
use Rattle.relay_admin.specs.admin.Progress.{position}
use Rattle.relay_admin.proofs.admin.LaterLemmas.{line_comes, ready_by}
use Rattle.relay_admin.proofs.StepLemmas.{long_comes}
use Rattle.relay_admin.proofs.admin.dialogue.Dialogue.next_reply.Goals as goal

-- no line is whole

pub returns-in-Unended-clause-ready : goal.returns-in-Unended-clause-ready
returns-in-Unended-clause-ready g c =
    let l = line_grown MAX_LINE_BYTES c.args.self.now.lines c.find_line.new.self c.requires.ready.unended
    c.in-Unended.ensures.found in
    record { numbered = c.requires.ready.numbered; short = c.find_line.ensures.fits; unended = l.unended }

-- a line is too long

pub returns-in-TooLong-clause-ready : goal.returns-in-TooLong-clause-ready
returns-in-TooLong-clause-ready g c = record {
  numbered = c.requires.ready.numbered;
  short = c.find_line.ensures.fits;
  unended = long_unended MAX_LINE_BYTES c.args.self.now.lines c.find_line.new.self c.requires.ready.unended
      c.in-TooLong.ensures.found;
}

pub returns-in-TooLong-clause-does : goal.returns-in-TooLong-clause-does
returns-in-TooLong-clause-does g c =
    long_comes c.args.self.now.number c.args.self.now.lines
    (record { number = c.args.self.now.number; lines = c.find_line.new.self })
    (g.D.SessionDesk.exchanges c.args.desk.now)
    (line_is_long MAX_LINE_BYTES c.args.self.now.lines c.find_line.new.self c.requires.ready.unended
    c.in-TooLong.ensures.found)

-- a line

pub ask_line-requires : goal.ask_line-requires
ask_line-requires g c =
    let l = line_found MAX_LINE_BYTES c.args.self.now.lines c.find_line.new.self c.requires.ready.unended
    c.in-Line.ensures.found in
    record {
      ready =
          record { numbered = c.requires.ready.numbered; short = c.find_line.ensures.fits; unended = l.unended };
    }

pub returns-in-Line-clause-ready : goal.returns-in-Line-clause-ready
returns-in-Line-clause-ready g c =
    let l = line_found MAX_LINE_BYTES c.args.self.now.lines c.find_line.new.self c.requires.ready.unended
    c.in-Line.ensures.found in
    ready_by c.ask_line.result _ (position c.ask_line.new.self) _ _
    (record { numbered = c.requires.ready.numbered; short = c.find_line.ensures.fits; unended = l.unended })
    c.ask_line.ensures.does

pub returns-in-Line-clause-does : goal.returns-in-Line-clause-does
returns-in-Line-clause-does g c =
    line_comes c.ask_line.result c.args.self.now.number c.args.self.now.lines c.find_line.new.self
    c.ask_line.new.self _ _
    (line_found MAX_LINE_BYTES c.args.self.now.lines c.find_line.new.self c.requires.ready.unended
    c.in-Line.ensures.found) c.ask_line.ensures.ahead c.ask_line.ensures.does
