use Rattle.std.proofs.Common.{◌≡◌, ◌<◌, sym, ap, arith, ◌∙◌, length}
use Rattle.stream_base.specs.Lines.{lines_of}
use Rattle.relay_admin.specs.admin.Transcript.{Transcript, ended}
use Rattle.relay_admin.specs.declared.admin.end.AdminEnd.TheVariants as ends
use Rattle.relay_admin.proofs.TextLemmas.{number_same, number_positive}
use Rattle.relay_admin.proofs.SessionLemmas.{no_last_line}
use Rattle.relay_workers.proofs.AnsweringLemmas.{finish_closes, finish_ends, meanwhile_none}
use Rattle.relay_workers.proofs.answering.finish.Goals as goal

pub returns-then-is_empty-clause-does : goal.returns-then-is_empty-clause-does
returns-then-is_empty-clause-does g c =
    let self = c.args.dialogue.now in
    let empty : length c.line.result.now ≡ 0 = number_same _ 0 (sym c.is_empty.ensures ∙ c.if-is_empty.true) in
    meanwhile_none _ _ (λ exchanges replies. Transcript self.number (lines_of self.lines.held) exchanges replies
    (ended ends.End))
    (no_last_line self.number self.lines.held (omega (arith, ap length c.line.ensures.bytes, empty)))

pub returns-in-GoesOn-clause-does : goal.returns-in-GoesOn-clause-does
returns-in-GoesOn-clause-does g c =
    let self = c.args.dialogue.now in
    let some : 0 < length c.line.result.now = number_positive _ (sym c.is_empty.ensures ∙ c.if-is_empty.false) in
    finish_ends self.number self.lines.held _ _ _ _ c.requires.ready.unended
    (omega (arith, ap length c.line.ensures.bytes, some)) c.in-GoesOn.ensures.does.0 c.in-GoesOn.ensures.does.2

pub returns-in-Ended-clause-does : goal.returns-in-Ended-clause-does
returns-in-Ended-clause-does g c =
    let self = c.args.dialogue.now in
    let some : 0 < length c.line.result.now = number_positive _ (sym c.is_empty.ensures ∙ c.if-is_empty.false) in
    finish_closes self.number self.lines.held _ _ _ _ _ c.requires.ready.unended
    (omega (arith, ap length c.line.ensures.bytes, some)) c.in-Ended.ensures.does.1

pub returns-in-CutOff-clause-does : goal.returns-in-CutOff-clause-does
returns-in-CutOff-clause-does g c =
    let self = c.args.dialogue.now in
    let some : 0 < length c.line.result.now = number_positive _ (sym c.is_empty.ensures ∙ c.if-is_empty.false) in
    finish_closes self.number self.lines.held _ _ _ _ _ c.requires.ready.unended
    (omega (arith, ap length c.line.ensures.bytes, some)) c.in-CutOff.ensures.does
