use Rattle.workers_tests.proofs.ServingLemmas.{served, where_ok}
use Rattle.workers_tests.proofs.tests.sessions.telling.served_and_told.Goals as goal

pub returns : goal.returns
returns c whole = where_ok _ _ (λ end run. served _ _ _ _ _ _ _ _ c.requires.asked c.requires.whole whole
    c.requires.replies run) c.serve_admin.result c.serve_admin.ensures.ok
