use Rattle.std.proofs.Common.{◌≡◌, ◌∙◌, sym, ap, rules}
use Rattle.std.specs.Prelude.{Some}
use Rattle.std.specs.Arc.{arc_value}
use Rattle.readiness.specs.EventLoop.{tasks_of}
use Rattle.readiness.specs.Tasks.{task_in}
use Rattle.relay_main.proofs.BindingLemmas.{has_come, stand_on, stand_put, stand_same}
use Rattle.relay_main.proofs.opening.hold_rule.Goals.{in-Ok-put, in-Err}
use Rattle.relay_main.proofs.opening.hold_rule.Goals as goal

-- where the task was put it has come under its place's token
pub returns-clause-come : goal.returns-clause-come
returns-clause-come g c = elim c.match-put.branch [
  | in-Ok-put w ↦
      let same : arc_value c.in_ok-task_served.task_served ≡ arc_value c.args.served.now = search rules in
      let put = ap (λ place. task_in (tasks_of c.put.new.self) place.first)
      (c.in-Ok.ensures.place ∙ sym w.in-Ok-put.ensures.given) ∙ w.in-Ok-put.ensures.put.first in
      rw (w.result-is, w.tasks-is) (has_come (tasks_of c.args.tasks.now) (tasks_of c.vacant.new.self)
      (tasks_of c.put.new.self) (tasks_of w.again.new.self) c.in-Ok.place.first _
      c.in_ok-task_served.task_served (arc_value c.args.served.now) c.args.facts.listen c.in-Ok.ensures.kept
      c.in-Ok.ensures.unused put (ap Some c.new.ensures.served) (search rules) w.again.ensures.kept same)
  | in-Err w ↦ rw w.result-is tt
]

-- what stood stands, whether the task was put or not
pub returns-clause-stand : goal.returns-clause-stand
returns-clause-stand g c = elim c.match-put.branch [
  | in-Ok-put w ↦
      rw w.tasks-is (stand_put (tasks_of c.args.tasks.now) (tasks_of c.vacant.new.self) (tasks_of c.put.new.self) (tasks_of w.again.new.self)
      c.in-Ok.place _ _ c.in-Ok.ensures.kept c.in-Ok.ensures.place c.in-Ok.ensures.unused w.in-Ok-put.ensures.given w.in-Ok-put.ensures.put
      w.again.ensures.kept)
  | in-Err w ↦
      rw w.tasks-is (stand_on (tasks_of c.args.tasks.now) (tasks_of c.vacant.new.self) (tasks_of c.put.new.self)
      (stand_same (tasks_of c.args.tasks.now) (tasks_of c.vacant.new.self) c.in-Ok.ensures.kept)
      (stand_same (tasks_of c.vacant.new.self) (tasks_of c.put.new.self) w.in-Err.ensures.kept))
]
