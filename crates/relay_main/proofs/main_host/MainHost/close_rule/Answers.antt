use Rattle.relay_main.proofs.ClosingLemmas.{was_closed}
use Rattle.relay_main.proofs.main_host.MainHost.close_rule.Goals as goal

pub returns : goal.returns
returns g c =
    was_closed _ c.into_handle-handle.result c.close-closed.new.self c.close-closed.result
    c.into_handle-handle.ensures.same c.close-closed.ensures.keeps c.close-closed.ensures.closer
