use Rattle.relay_conn.proofs.DrainedLemmas.{was_drained}
use Rattle.relay_conn.proofs.side.drain_side.Goals as goal

pub returns-clause-drained : goal.returns-clause-drained
returns-clause-drained g c =
    was_drained _ _ _ c.drain.result c.in_ok-handle.ensures.shared c.in_ok-handle.ensures.idle
    c.drain.ensures.keeps c.drain.ensures.drainer
