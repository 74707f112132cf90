use Rattle.readiness.specs.EventLoop.{tasks_of}
use Rattle.readiness.specs.Tasks.{next_place}
use Rattle.relay_loops.proofs.SetUpLemmas.{for_client}
use Rattle.relay_loops.proofs.loops.LoopHost.connection.Goals as goal

pub returns-in-Ok-clause-set_up : goal.returns-in-Ok-clause-set_up
returns-in-Ok-clause-set_up g c = let begun = c.in_ok-begins.ensures in let its = c.in_ok-begins.begins in
    for_client c.connection.result c.args.acceptance.now c.args.counted its.counted _
    (next_place (tasks_of c.vacant.new.self)) c.in-Ok.place its.facts its.connect_by its.target
    c.connection.ensures.set_up c.connection.ensures.counted c.connection.ensures.others begun.same begun.target
    begun.counted begun.time c.in-Ok.ensures.place

-- the client was begun for with a first trial
pub connection-requires : goal.connection-requires
connection-requires g c = let first = c.in_ok-begins.ensures.target in record { target = (first.none, first.begun) }
