use Rattle.std.proofs.Common.{ap}
use Rattle.relay_admin.specs.admin.Parts.{said_of}
use Rattle.relay_admin.specs.admin.ReplyBytes.{bytes_of}
use Rattle.relay_workers.proofs.DeliveryLemmas.{err_then, ok_then, whole_breaks_off, whole_delivered}
use Rattle.relay_workers.proofs.delivering.deliver.Goals as goal

pub returns-in-Whole-clause-ok : goal.returns-in-Whole-clause-ok
returns-in-Whole-clause-ok g c =
    ok_then c.deliver_to.result _ _ c.deliver_to.ensures.ok
    (λ written. whole_delivered (said_of c.args.reply) (bytes_of c.in-Whole.reply) c.as_slice.result.now _ _ _
    (ap said_of c.in-Whole.is) c.as_slice.ensures written)

pub returns-in-Whole-clause-front : goal.returns-in-Whole-clause-front
returns-in-Whole-clause-front g c =
    err_then c.deliver_to.result _ _ c.deliver_to.ensures.front
    (λ front. whole_breaks_off (said_of c.args.reply) (bytes_of c.in-Whole.reply) c.as_slice.result.now _ _ _
    (ap said_of c.in-Whole.is) c.as_slice.ensures front)
