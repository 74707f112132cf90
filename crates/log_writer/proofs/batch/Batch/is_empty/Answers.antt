use Rattle.std.proofs.Common.{ap, length}
use Rattle.log_writer.proofs.BatchLemmas.{is_written}
use Rattle.log_writer.proofs.batch.Batch.is_empty.Goals as goal

pub returns : goal.returns
returns g c =
    is_written c.self.inside.taken.items c.self.inside.written _ c.args.self.now c.self.invariant
    (ap length c.as_slice-taken.ensures.value) c.self.view_is
