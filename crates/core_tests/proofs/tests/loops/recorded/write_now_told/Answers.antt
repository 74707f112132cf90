use Rattle.std.proofs.Common.{◌∙◌, ap, [], append-nil}
use Rattle.rwloops.specs.WriteTrace.{taken_bytes}
use Rattle.core_tests.proofs.WriteLemmas.{taken_by}
use Rattle.core_tests.proofs.tests.loops.recorded.write_now_told.Goals as goal

-- from no byte taken before, the half has exactly those of the call
pub returns : goal.returns
returns c =
    let run = c.write_now.ensures.trace in
    let law = c.written_bytes_are_the_first.ensures in
    run.half_tells [] c.requires ∙ (ap taken_bytes (append-nil run.tries) ∙
    taken_by law.taken law.fault c.args.bytes.now run.tries c.write_now.result run.trace)
