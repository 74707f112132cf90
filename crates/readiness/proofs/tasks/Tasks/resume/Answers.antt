use Rattle.std.proofs.Common.{ap, sym, ◌∙◌}
use Rattle.readiness.specs.LoopToken.{place_in}
use Rattle.readiness.specs.TaskAlarms.{awaited_at, serial_at}
use Rattle.readiness.specs.Tasks.{task_in}
use Rattle.readiness.proofs.AlarmLemmas.{apart_then, none_then, same_serials}
use Rattle.readiness.proofs.ResumingLemmas.{step_kept}
use Rattle.readiness.proofs.tasks.Tasks.resume.Goals as goal

pub returns-clause-others : goal.returns-clause-others
returns-clause-others g c other away =
    ap (λ t. task_in t other) c.time_step.ensures.kept ∙ c.make_step.ensures.others other away

pub returns-clause-passed : goal.returns-clause-passed
returns-clause-passed g c none token =
    ap (λ t. task_in t token) c.time_step.ensures.kept ∙ c.make_step.ensures.passed none token

pub returns-clause-made : goal.returns-clause-made
returns-clause-made g c = step_kept g.H.Host.awaited (g.H.Host.tells c.args.host.now)
    (g.H.Host.tells c.make_step.new.host) c.args.self.now c.make_step.new.self c.time_step.new.self c.args.step
    c.make_step.ensures.made (λ token. ap (λ t. task_in t token) c.time_step.ensures.kept)
    (λ armed. c.time_step.ensures.armed (c.make_step.ensures.armed g.H.Host.awaited armed))

pub returns-clause-apart : goal.returns-clause-apart
returns-clause-apart g c = apart_then c.args.self.now c.make_step.new.self c.time_step.new.self
    (place_in c.args.step.token) c.make_step.ensures.apart c.time_step.ensures.apart

pub returns-clause-renewed : goal.returns-clause-renewed
returns-clause-renewed g c = λ now is armed.
    c.time_step.ensures.exact now is
    ((c.make_step.ensures.armed g.H.Host.awaited armed).placed (place_in c.args.step.token))
    ∙ sym (ap (λ t. awaited_at g.H.Host.awaited t (place_in c.args.step.token)) c.time_step.ensures.kept)

pub returns-clause-left : goal.returns-clause-left
returns-clause-left g c = none_then c.args.self.now c.make_step.new.self c.time_step.new.self c.make_step.ensures.left
    (same_serials c.make_step.new.self c.time_step.new.self
    (λ place. ap (λ t. serial_at t place) c.time_step.ensures.kept))
