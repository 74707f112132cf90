use Rattle.std.proofs.Common.{◌≡◌, ◌↔◌, ◌∙◌, sym, ap, subst, true, option_copied}
use Rattle.readiness.specs.EventLoop.{tasks_of}
use Rattle.relay_loops.specs.LoopTask.{HasId}
use Rattle.relay_loops.proofs.RequestsLemmas.{is_there}
use Rattle.relay_loops.proofs.requests.is_here.Goals as goal

pub returns-in-Some : goal.returns-in-Some
returns-in-Some g c =
    is_there (tasks_of c.args.tasks.now) c.args.question.now c.in-Some.task.now c.has_id.result
    (sym c.task.ensures ∙ ap option_copied c.in-Some.is)
    (subst (λ side. (c.has_id.result ≡ true) ↔ HasId c.in-Some.task.now side c.args.question.now.id)
    c.side_of.ensures c.has_id.ensures)
