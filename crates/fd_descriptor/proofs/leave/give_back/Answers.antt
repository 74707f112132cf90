use Rattle.std.proofs.Common.{◌∙◌}
use Rattle.fd_descriptor.proofs.HalfLemmas.{left_at_home, left_marks, left_no_end, left_hearing}
use Rattle.fd_descriptor.proofs.leave.give_back.Goals as goal

pub returns-clause-home : goal.returns-clause-home
returns-clause-home g c =
    left_at_home g.D.Direction.dir (g.D.Guards.stored c.args.held.half) c.args.held.place c.unlock.result _
    c.unlock.ensures.home c.unlock.ensures.did c.leave.ensures.did

pub returns-clause-marks : goal.returns-clause-marks
returns-clause-marks g c =
    let left = left_marks c.args.held.place c.unlock.result c.unlock.ensures.left in
    let kept = c.leave.ensures.marks in
    ((λ e. kept.0 (left.0 e)), (λ e. kept.1 (left.1 e)), λ e. kept.2 (left.2 e))

pub returns-clause-no_close : goal.returns-clause-no_close
returns-clause-no_close g c =
    c.leave.ensures.no_close ∙ (left_no_end c.args.held.place c.unlock.result c.unlock.ensures.no_end).0

pub returns-clause-no_drain : goal.returns-clause-no_drain
returns-clause-no_drain g c =
    c.leave.ensures.no_drain ∙ (left_no_end c.args.held.place c.unlock.result c.unlock.ensures.no_end).1

pub returns-clause-heard : goal.returns-clause-heard
returns-clause-heard g c =
    left_hearing c.args.held.place c.unlock.result _ c.unlock.ensures.heard c.leave.ensures.heard
