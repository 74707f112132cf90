use Rattle.std.proofs.Common.{◌∙◌}
use Rattle.net.proofs.serve_loop.LoopHost.set_up.Goals as goal

-- the task that was put is the one that was begun
pub returns-in-Ok-put : goal.returns-in-Ok-put
returns-in-Ok-put g c = record {
  begun = record {
    token = c.in-Ok-put.place.first;
    stands = rw (c.again.ensures.kept c.in-Ok-put.place.first ∙ c.in-Ok-put.ensures.put.first)
        (rw c.in_ok-served.ensures.task c.in-Ok.ensures.begun);
  };
}
