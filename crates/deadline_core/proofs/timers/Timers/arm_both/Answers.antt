use Rattle.std.proofs.Common.{◌≡◌, ◌∙◌}
use Rattle.deadline_core.specs.TimerOrder.{armed_in, SameMoments}
use Rattle.deadline_core.proofs.TimerOrderLemmas.{err_then, armed_same}
use Rattle.deadline_core.proofs.timers.Timers.arm_both.Goals as goal

pub returns-clause-unchanged : goal.returns-clause-unchanged
returns-clause-unchanged g c =
    err_then c.put_both-done.result (SameMoments c.self.inside.moments c.put_both-done.new.moments)
    (armed_in c.put_both-done.new.moments ≡ c.args.self.now)
    (λ same. armed_same c.self.inside.moments c.put_both-done.new.moments same ∙ c.self.view_is)
    c.put_both-done.ensures.unchanged
