use Rattle.std.proofs.Common.{subst}
use Rattle.relay_admin.specs.admin.Reply.{IsReplyTo, answer_of}
use Rattle.relay_admin.specs.admin.ReplyBytes.{bytes_of}
use Rattle.relay_admin.proofs.Listings.{by_whole}
use Rattle.relay_admin.proofs.admin.line_reply.line_reply_to.Goals as goal

pub returns-in-Err : goal.returns-in-Err
returns-in-Err g c =
    by_whole _ _ (bytes_of c.reply_to.result) c.in-Err.ensures.other.0
    (subst (λ a. IsReplyTo (answer_of a) (bytes_of c.reply_to.result)) c.in-Err.ensures.other.1 c.reply_to.ensures)
