use Rattle.std.proofs.Common.{◌∙◌, ap, sym}
use Rattle.readiness.specs.Agenda.{steps_of}
use Rattle.readiness.specs.EventLoop.{tasks_of, events_in, told_in, round_in}
use Rattle.readiness.specs.Tasks.{gone_again}
use Rattle.readiness.proofs.TurnLemmas.{turn_ends, turn_goes_on, same_steps, waited_armed}
use Rattle.readiness.proofs.event_loop.EventLoop.turn.Goals as goal

pub returns-in-Err-clause-begun : goal.returns-in-Err-clause-begun
returns-in-Err-clause-begun g c = turn_ends g.H.Host.awaited (g.H.Host.tells c.args.host.now)
    (g.H.Host.tells c.resume_timed-done.new.host) c.args.now (tasks_of c.args.self.now) c.begin_round-all_again.new.self
    (tasks_of c.resume_timed-done.new.self) (tasks_of c.wait.new.self) c.begin_round-all_again.ensures.still
    c.resume_timed-done.ensures.made c.wait.ensures.tasks

pub returns-in-Err-clause-armed : goal.returns-in-Err-clause-armed
returns-in-Err-clause-armed g c = waited_armed g.H.Host.awaited (tasks_of c.args.self.now)
    c.begin_round-all_again.new.self (tasks_of c.resume_timed-done.new.self) (tasks_of c.wait.new.self)
    c.begin_round-all_again.ensures.still c.resume_timed-done.ensures.made.made.armed c.wait.ensures.tasks

pub returns-clause-made : goal.returns-clause-made
returns-clause-made g c = turn_goes_on g.H.Host.awaited (g.H.Host.tells c.args.host.now)
    (g.H.Host.tells c.resume_timed-done.new.host) (g.H.Host.tells c.resume_heard.new.host) c.args.now
    (steps_of (events_in c.wait.new.self) (told_in c.wait.new.self) (round_in c.wait.new.self))
    (steps_of (events_in c.resume_heard.new.self) (told_in c.resume_heard.new.self) (gone_again (tasks_of c.args.self.now)))
    c.in-Ok.all_told c.begin_round-all_again.result (tasks_of c.args.self.now) c.begin_round-all_again.new.self
    (tasks_of c.resume_timed-done.new.self) (tasks_of c.wait.new.self) (tasks_of c.resume_heard.new.self)
    c.begin_round-all_again.ensures.still c.resume_timed-done.ensures.made c.wait.ensures.tasks c.resume_heard.ensures.made
    c.begin_round-all_again.ensures.all
    (same_steps (events_in c.wait.new.self) (events_in c.resume_heard.new.self) (told_in c.wait.new.self)
    (told_in c.resume_heard.new.self) (round_in c.wait.new.self) (gone_again (tasks_of c.args.self.now))
    (sym (ap (λ l. events_in l) c.resume_heard.ensures.kept)) (sym (ap (λ l. told_in l) c.resume_heard.ensures.kept))
    (c.wait.ensures.round ∙ (ap (λ l. round_in l) c.resume_timed-done.ensures.kept ∙ c.begin_round-all_again.ensures.tokens)))

pub returns-clause-armed : goal.returns-clause-armed
returns-clause-armed g c armed = c.resume_heard.ensures.made.made.armed
    (waited_armed g.H.Host.awaited (tasks_of c.args.self.now)
    c.begin_round-all_again.new.self (tasks_of c.resume_timed-done.new.self) (tasks_of c.wait.new.self)
    c.begin_round-all_again.ensures.still c.resume_timed-done.ensures.made.made.armed c.wait.ensures.tasks armed)
