use Rattle.std.proofs.Common.{◌∙◌, sym, ap, subst, [], reverse, append-nil}
use Rattle.rwloops.specs.AcceptTrace.{AcceptTrace}
use Rattle.core_tests.specs.Recorded.{wait_calls_of}
use Rattle.core_tests.proofs.tests.loops.recorded.accept_told.Goals as goal

-- from nothing kept before, the half and the waits keep exactly what the call tried and asked
pub returns : goal.returns
returns g c whole whole_calls =
    let run = c.accept.ensures.trace in
    let tried = run.half_tells [] (λ w. ap reverse c.requires.tries) whole in
    let asked = run.waits_tell [] (λ w. ap wait_calls_of c.requires.calls) whole_calls in
    subst (λ tries. AcceptTrace tries (wait_calls_of c.accept.new.waits.kept.all.items) c.accept.result)
    (sym (tried ∙ append-nil run.tries))
    (subst (λ calls. AcceptTrace run.tries calls c.accept.result) (sym (asked ∙ append-nil run.calls)) run.trace)
