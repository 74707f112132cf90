-- A front of what is left is taken, and the rest is left.
use Rattle.std.proofs.Common.{Some, None, Ok}
use Rattle.net.proofs.Sending.{sends}
use Rattle.net.proofs.outgoing.Outgoing.poll.Goals as goal

pub returns-then-is_sent-2 : goal.returns-then-is_sent-2
returns-then-is_sent-2 g c = record {
  sent =
      sends (Some (Ok tt)) c.self.inside.bytes.items c.as_slice.result.now c.args.self.now c.self.inside.sent
      c.in-Ok.count c.in_ok-count.field-0 (g.W.PollWrite.written c.args.sink.now)
      (g.W.PollWrite.written c.poll_write.new.self) c.as_slice.ensures.value c.self.view_is c.in-Ok.is
      c.in_ok-count.ensures.bytes (c.is_sent-2.ensures.sent c.if-is_sent-2.true);
}

pub returns-else-is_sent-2 : goal.returns-else-is_sent-2
returns-else-is_sent-2 g c = record {
  sent =
      sends None c.self.inside.bytes.items c.as_slice.result.now c.args.self.now c.self.inside.sent
      c.in-Ok.count c.in_ok-count.field-0 (g.W.PollWrite.written c.args.sink.now)
      (g.W.PollWrite.written c.poll_write.new.self) c.as_slice.ensures.value c.self.view_is c.in-Ok.is
      c.in_ok-count.ensures.bytes (c.is_sent-2.ensures.unsent c.if-is_sent-2.false);
}
