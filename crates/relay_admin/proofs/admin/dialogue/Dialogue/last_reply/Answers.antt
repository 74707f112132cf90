use Rattle.std.proofs.Common.{◌≡◌, ◌<◌, sym, subst, refl, ap, arith, ◌∙◌, length}
use Rattle.relay_admin.specs.admin.Progress.{LastComesTo, position}
use Rattle.relay_admin.specs.admin.Parts.{said_of}
use Rattle.relay_admin.proofs.Words.{Some}
use Rattle.relay_admin.proofs.TextLemmas.{number_same, number_positive}
use Rattle.relay_admin.proofs.SessionLemmas.{no_last_line}
use Rattle.relay_admin.proofs.StepLemmas.{last_comes}
use Rattle.relay_admin.proofs.admin.dialogue.Dialogue.last_reply.Goals as goal

pub returns-then-is_empty-clause-does : goal.returns-then-is_empty-clause-does
returns-then-is_empty-clause-does g c =
    let self = c.args.self.now in
    let empty : length c.line.result.now ≡ 0 = number_same _ 0 (sym c.is_empty.ensures ∙ c.if-is_empty.true) in
    (refl, no_last_line self.number self.lines.held (omega (arith, ap length c.line.ensures.bytes, empty)))

pub returns-in-Reply-clause-does : goal.returns-in-Reply-clause-does
returns-in-Reply-clause-does g c =
    let self = c.args.self.now in
    let some : 0 < length c.line.result.now = number_positive _ (sym c.is_empty.ensures ∙ c.if-is_empty.false) in
    subst (λ end. LastComesTo (Some (said_of c.in-Reply.reply, end)) (position self)
    (g.D.SessionDesk.exchanges c.args.desk.now) (g.D.SessionDesk.exchanges c.ask_line.new.desk))
    (sym c.unwrap_or.ensures)
    (last_comes c.in-Reply.end self.number self.lines.held (position c.ask_line.new.self)
    (g.D.SessionDesk.exchanges c.args.desk.now) (g.D.SessionDesk.exchanges c.ask_line.new.desk)
    (said_of c.in-Reply.reply) c.requires.ready.unended
    (omega (arith, ap length c.line.ensures.bytes, some)) c.in-Reply.ensures.does)
