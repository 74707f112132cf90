use Rattle.readiness.specs.EventLoop.{tasks_of}
use Rattle.relay_main.specs.Binding.{IsListenedFor}
use Rattle.relay_main.specs.declared.wanted_listeners.WantedListener.{WantedListener}
use Rattle.relay_main.proofs.BindingLemmas.{stand_on, stand_undone, listened_on, each_of}
use Rattle.relay_main.proofs.main_loop.MainLoop.+bind_all.Goals as goal

-- the first was bound and stays, and the others are
pub returns-in-Ok-clause-bound : goal.returns-in-Ok-clause-bound
returns-in-Ok-clause-bound g t c =
    let bound = tasks_of c.bind_all.new.self.tasks in
    let come = c.in_ok-begun.ensures.come.accepts in
    each_of (λ (one : WantedListener). IsListenedFor one bound) c.args.wanted.now c.in-Some.rest.now c.in-Some.one.now
    c.in-Some.ensures.cases.0
    (listened_on (tasks_of c.bind.new.self.tasks) bound c.in_ok-begun.begun.token come.0 c.in-Some.one.now
    c.in_ok-served.served come.1 come.2 c.in_ok-served.ensures.own c.in_ok-begun.ensures.come.listens
    c.bind_all.ensures.stand)
    c.in-Ok.ensures.bound

-- what stood stands through all binds, and through their undoing
pub returns-clause-stand : goal.returns-clause-stand
returns-clause-stand g t c =
    let old = tasks_of c.args.self.now.tasks in
    let bound = tasks_of c.bind_all.new.self.tasks in
    stand_undone old bound (tasks_of c.let_go.new.self.tasks) c.in_ok-begun.begun.token
    c.in_ok-begun.ensures.come.fresh
    (stand_on old (tasks_of c.bind.new.self.tasks) bound c.bind.ensures.stand c.bind_all.ensures.stand)
    c.let_go.ensures.others

-- what stood stands through the first bind and those behind it
pub returns-in-Ok-clause-stand : goal.returns-in-Ok-clause-stand
returns-in-Ok-clause-stand g t c =
    stand_on (tasks_of c.args.self.now.tasks) (tasks_of c.bind.new.self.tasks) (tasks_of c.bind_all.new.self.tasks)
    c.bind.ensures.stand c.bind_all.ensures.stand
