use Rattle.std.proofs.Common.{◌≡◌, ◌∙◌, ap, None}
use Rattle.std.specs.FinMap.{remove}
use Rattle.deadline_core.specs.TimerOrder.{armed_in, Sets, SameMoments}
use Rattle.deadline_core.proofs.TimerOrderLemmas.{none_then, some_then, armed_same, armed_taken}
use Rattle.deadline_core.proofs.timers.Timers.take_first_due.Goals as goal

pub returns-clause-none : goal.returns-clause-none
returns-clause-none g c =
    let new = c.pop_first_due-first.new.moments in
    none_then c.pop_first_due-first.result (SameMoments c.self.inside.moments new) (armed_in new ≡ c.args.self.now)
    (λ same. armed_same c.self.inside.moments new same ∙ c.self.view_is) c.pop_first_due-first.ensures.none

pub returns-clause-taken : goal.returns-clause-taken
returns-clause-taken g c =
    let new = c.pop_first_due-first.new.moments in
    some_then c.pop_first_due-first.result (λ first. Sets c.self.inside.moments new first.0 None)
    (λ first. armed_in new ≡ remove c.args.self.now first.0)
    (λ first sets. armed_taken c.self.inside.moments new first.0 sets ∙ ap (λ m. remove m first.0) c.self.view_is)
    c.pop_first_due-first.ensures.taken
