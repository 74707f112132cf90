use Rattle.std.proofs.Common.{refl, sym, ◌∙◌, Some}
use Rattle.readiness.specs.LoopToken.{place_in}
use Rattle.readiness.proofs.AlarmLemmas.{apart_then, still_apart, still_armed, gone_on, none_then, same_serials}
use Rattle.readiness.specs.Tasks.{task_in}
use Rattle.readiness.specs.declared.tasks.Turn.TheVariants.{Waits, Again}
use Rattle.readiness.proofs.ResumingLemmas.{step_made, stays_so, over_so}
use Rattle.readiness.proofs.tasks.Tasks.make_step.Goals as goal

pub returns-in-Waits-clause-made : goal.returns-in-Waits-clause-made
returns-in-Waits-clause-made g c = step_made (g.H.Host.tells c.args.host.now) (g.H.Host.tells c.go_on.new.host)
    c.args.self.now c.go_on.new.self c.args.step (task_in c.come_to.new.self c.args.step.token)
    (sym (c.come_to.ensures.kept c.args.step.token))
    (λ other away. c.in-Waits.ensures.others other away ∙ c.come_to.ensures.kept other)
    (stays_so (g.H.Host.tells c.args.host.now) (g.H.Host.tells c.go_on.new.host)
    c.args.self.now c.go_on.new.self c.args.step Waits (task_in c.come_to.new.self c.args.step.token)
    (task_in c.go_on.new.self c.args.step.token) (λ task one. refl) (λ one. refl) c.in-Waits.ensures.stays
    (λ none token. c.in-Waits.ensures.kept none token ∙ c.come_to.ensures.kept token)
    c.in-Waits.ensures.silent c.in-Waits.ensures.resumed refl)

pub returns-in-Again-clause-made : goal.returns-in-Again-clause-made
returns-in-Again-clause-made g c = step_made (g.H.Host.tells c.args.host.now) (g.H.Host.tells c.go_on.new.host)
    c.args.self.now c.give_way.new.self c.args.step (task_in c.come_to.new.self c.args.step.token)
    (sym (c.come_to.ensures.kept c.args.step.token))
    (λ other away. c.give_way.ensures.kept other ∙ (c.in-Again.ensures.others other away ∙ c.come_to.ensures.kept other))
    (stays_so (g.H.Host.tells c.args.host.now) (g.H.Host.tells c.go_on.new.host)
    c.args.self.now c.give_way.new.self c.args.step Again (task_in c.come_to.new.self c.args.step.token)
    (task_in c.go_on.new.self c.args.step.token) (λ task one. refl) (λ one. refl) c.in-Again.ensures.stays
    (λ none token. c.give_way.ensures.kept token ∙ (c.in-Again.ensures.kept none token ∙ c.come_to.ensures.kept token))
    c.in-Again.ensures.silent c.in-Again.ensures.resumed (c.give_way.ensures.kept c.args.step.token))

pub returns-in-Over-clause-made : goal.returns-in-Over-clause-made
returns-in-Over-clause-made g c = step_made (g.H.Host.tells c.args.host.now) (g.H.Host.tells c.end.new.host)
    c.args.self.now c.end.new.self c.args.step (task_in c.come_to.new.self c.args.step.token)
    (sym (c.come_to.ensures.kept c.args.step.token))
    (λ other away. c.end.ensures.others other away ∙ (c.in-Over.ensures.others other away ∙ c.come_to.ensures.kept other))
    (over_so (g.H.Host.tells c.args.host.now) (g.H.Host.tells c.go_on.new.host) (g.H.Host.tells c.end.new.host)
    c.args.self.now c.end.new.self c.args.step (task_in c.come_to.new.self c.args.step.token)
    (task_in c.go_on.new.self c.args.step.token) c.in-Over.ensures.stays c.in-Over.ensures.passed
    c.in-Over.ensures.resumed c.end.ensures.handed c.end.ensures.gone)

pub returns-in-Waits-clause-apart : goal.returns-in-Waits-clause-apart
returns-in-Waits-clause-apart g c = apart_then c.args.self.now c.come_to.new.self c.go_on.new.self
    (place_in c.args.step.token)
    (still_apart c.args.self.now c.come_to.new.self (place_in c.args.step.token) c.come_to.ensures.still)
    c.in-Waits.ensures.apart

pub returns-in-Again-clause-apart : goal.returns-in-Again-clause-apart
returns-in-Again-clause-apart g c =
    let at = place_in c.args.step.token in
    apart_then c.args.self.now c.come_to.new.self c.give_way.new.self at
    (still_apart c.args.self.now c.come_to.new.self at c.come_to.ensures.still)
    (apart_then c.come_to.new.self c.go_on.new.self c.give_way.new.self at c.in-Again.ensures.apart
    (still_apart c.go_on.new.self c.give_way.new.self at c.give_way.ensures.still))

pub returns-in-Over-clause-apart : goal.returns-in-Over-clause-apart
returns-in-Over-clause-apart g c =
    let at = place_in c.args.step.token in
    apart_then c.args.self.now c.come_to.new.self c.end.new.self at
    (still_apart c.args.self.now c.come_to.new.self at c.come_to.ensures.still)
    (apart_then c.come_to.new.self c.go_on.new.self c.end.new.self at c.in-Over.ensures.apart c.end.ensures.apart)

pub returns-in-Waits-clause-armed : goal.returns-in-Waits-clause-armed
returns-in-Waits-clause-armed g c awaited armed =
    gone_on c.args.self.now c.come_to.new.self c.go_on.new.self (place_in c.args.step.token) c.come_to.ensures.still
    c.in-Waits.ensures.apart c.in-Waits.ensures.serials c.in-Waits.ensures.alarms awaited armed

pub returns-in-Again-clause-armed : goal.returns-in-Again-clause-armed
returns-in-Again-clause-armed g c awaited armed =
    let at = place_in c.args.step.token in
    still_armed c.go_on.new.self c.give_way.new.self c.give_way.ensures.still awaited (Some at)
    (gone_on c.args.self.now c.come_to.new.self c.go_on.new.self at c.come_to.ensures.still
    c.in-Again.ensures.apart c.in-Again.ensures.serials c.in-Again.ensures.alarms awaited armed)

pub returns-in-Over-clause-armed : goal.returns-in-Over-clause-armed
returns-in-Over-clause-armed g c awaited armed = c.end.ensures.armed awaited
    (gone_on c.args.self.now c.come_to.new.self c.go_on.new.self (place_in c.args.step.token)
    c.come_to.ensures.still c.in-Over.ensures.apart c.in-Over.ensures.serials c.in-Over.ensures.alarms awaited armed)

pub returns-in-Waits-clause-left : goal.returns-in-Waits-clause-left
returns-in-Waits-clause-left g c = same_serials c.args.self.now c.go_on.new.self
    (λ place. c.in-Waits.ensures.serials place ∙ c.come_to.ensures.still.serials place)

pub returns-in-Again-clause-left : goal.returns-in-Again-clause-left
returns-in-Again-clause-left g c = same_serials c.args.self.now c.give_way.new.self
    (λ place. c.give_way.ensures.still.serials place ∙ (c.in-Again.ensures.serials place
    ∙ c.come_to.ensures.still.serials place))

pub returns-in-Over-clause-left : goal.returns-in-Over-clause-left
returns-in-Over-clause-left g c = none_then c.args.self.now c.go_on.new.self c.end.new.self
    (same_serials c.args.self.now c.go_on.new.self
    (λ place. c.in-Over.ensures.serials place ∙ c.come_to.ensures.still.serials place)) c.end.ensures.left
