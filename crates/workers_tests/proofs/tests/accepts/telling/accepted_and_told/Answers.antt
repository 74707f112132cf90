use Rattle.std.proofs.Common.{◌∙◌, sym, ap, subst, [], append-nil}
use Rattle.relay_core.specs.AcceptTrace.{AcceptTrace}
use Rattle.workers_tests.specs.Recorded.{accept_calls_of}
use Rattle.workers_tests.proofs.tests.accepts.telling.accepted_and_told.Goals as goal

-- from no call kept before, the listener keeps exactly those of the worker
pub returns : goal.returns
returns g c whole =
    let run = c.accept_worker.ensures in
    let told = run.told [] (λ w. ap accept_calls_of c.requires) whole in
    subst (λ calls. AcceptTrace calls c.accept_worker.result) (sym (told ∙ append-nil run.calls)) run.trace
