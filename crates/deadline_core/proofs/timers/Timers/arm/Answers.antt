use Rattle.std.proofs.Common.{◌≡◌, ap, ◌∙◌, Some}
use Rattle.std.specs.FinMap.{insert}
use Rattle.deadline_core.specs.DueOrder.{Slot}
use Rattle.deadline_core.specs.TimerOrder.{armed_in, Sets, SameMoments}
use Rattle.deadline_core.proofs.TimerOrderLemmas.{ok_then, err_then, armed_named, armed_same}
use Rattle.deadline_core.proofs.timers.Timers.arm.Goals as goal

pub returns-clause-armed : goal.returns-clause-armed
returns-clause-armed g c =
    let slot : Slot = (c.args.key, c.args.dir) in
    ok_then c.put-done.result (Sets c.self.inside.moments c.put-done.new.moments slot (Some c.args.at))
    (armed_in c.put-done.new.moments ≡ insert c.args.self.now slot c.args.at)
    (λ sets. armed_named c.self.inside.moments c.put-done.new.moments slot c.args.at sets ∙
    ap (λ m. insert m slot c.args.at) c.self.view_is) c.put-done.ensures.named

pub returns-clause-unchanged : goal.returns-clause-unchanged
returns-clause-unchanged g c =
    err_then c.put-done.result (SameMoments c.self.inside.moments c.put-done.new.moments)
    (armed_in c.put-done.new.moments ≡ c.args.self.now)
    (λ same. armed_same c.self.inside.moments c.put-done.new.moments same ∙ c.self.view_is) c.put-done.ensures.unchanged
