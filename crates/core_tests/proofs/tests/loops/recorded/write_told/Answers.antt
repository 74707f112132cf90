use Rattle.std.proofs.Common.{◌∙◌, ap, [], append-nil}
use Rattle.rwloops.specs.WriteTrace.{taken_bytes}
use Rattle.core_tests.proofs.WriteLemmas.{taken_by_answer}
use Rattle.core_tests.proofs.tests.loops.recorded.write_told.Goals as goal

-- from no byte taken before, the half has exactly those of the call
pub returns : goal.returns
returns g c =
    let run = c.write.ensures.trace in
    let law = c.written_bytes_are_the_first.ensures in
    run.half_tells [] c.requires ∙ (ap taken_bytes (append-nil run.tries) ∙
    taken_by_answer law.taken law.fault c.args.bytes.now run.tries run.calls c.write.result run.trace)
