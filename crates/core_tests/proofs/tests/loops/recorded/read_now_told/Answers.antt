use Rattle.std.proofs.Common.{◌∙◌, sym, ap, subst, [], append-nil}
use Rattle.rwloops.specs.TryNow.{ReadNow}
use Rattle.core_tests.specs.Recorded.{read_tries_of}
use Rattle.core_tests.proofs.tests.loops.recorded.read_now_told.Goals as goal

-- from no try kept before, the half keeps exactly the tries of the call
pub returns : goal.returns
returns c whole =
    let run = c.read_now.ensures.trace in
    let told = run.half_tells [] (λ w. ap read_tries_of c.requires) whole in
    subst (λ tries. ReadNow c.read_now.new.buf tries c.read_now.result) (sym (told ∙ append-nil run.tries)) run.trace
