use Rattle.std.proofs.Common.{◌∙◌, sym, ap, subst, [], reverse, append-nil}
use Rattle.rwloops.specs.TryNow.{AcceptNow}
use Rattle.core_tests.proofs.tests.loops.recorded.accept_now_told.Goals as goal

-- from no try kept before, the half keeps exactly the tries of the call
pub returns : goal.returns
returns c whole =
    let run = c.accept_now.ensures.trace in
    let told = run.half_tells [] (λ w. ap reverse c.requires) whole in
    subst (λ tries. AcceptNow tries c.accept_now.result) (sym (told ∙ append-nil run.tries)) run.trace
