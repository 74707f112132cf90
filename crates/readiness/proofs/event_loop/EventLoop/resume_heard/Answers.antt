use Rattle.readiness.specs.Agenda.{steps_of}
use Rattle.readiness.specs.EventLoop.{tasks_of, events_in, told_in, round_in}
use Rattle.readiness.proofs.TurnLemmas.{heard_all}
use Rattle.readiness.proofs.event_loop.EventLoop.resume_heard.Goals as goal

pub returns-clause-made : goal.returns-clause-made
returns-clause-made g c = heard_all g.H.Host.awaited (g.H.Host.tells c.args.host.now) (g.H.Host.tells c.resume_round.new.host)
    (g.H.Host.tells c.resume_all_if.new.host) (g.H.Host.tells c.resume_all_if-2.new.host)
    (steps_of (events_in c.args.self.now) (told_in c.args.self.now) (round_in c.args.self.now))
    c.args.all_told c.args.all_again (tasks_of c.args.self.now) (tasks_of c.resume_round.new.self)
    (tasks_of c.resume_all_if.new.self) (tasks_of c.resume_all_if-2.new.self) c.resume_round.ensures.made
    c.resume_all_if.ensures.made c.resume_all_if-2.ensures.made
