use Rattle.std.proofs.Common.{◌∙◌, sym, ap, subst, [], append-nil}
use Rattle.rwloops.specs.ReadTrace.{ReadTrace}
use Rattle.core_tests.specs.Recorded.{read_tries_of, wait_calls_of}
use Rattle.core_tests.proofs.tests.loops.recorded.read_told.Goals as goal

-- from nothing kept before, the half and the waits keep exactly what the call tried and asked
pub returns : goal.returns
returns g c whole whole_calls =
    let run = c.read.ensures.trace in
    let tried = run.half_tells [] (λ w. ap read_tries_of c.requires.tries) whole in
    let asked = run.waits_tell [] (λ w. ap wait_calls_of c.requires.calls) whole_calls in
    subst (λ tries. ReadTrace c.read.new.buf tries (wait_calls_of c.read.new.waits.kept.all.items) c.read.result)
    (sym (tried ∙ append-nil run.tries))
    (subst (λ calls. ReadTrace c.read.new.buf run.tries calls c.read.result)
    (sym (asked ∙ append-nil run.calls)) run.trace)
