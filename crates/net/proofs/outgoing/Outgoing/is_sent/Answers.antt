-- Bytes are left until all are sent.
use Rattle.std.proofs.Common.{◌<◌, ◌∙◌, length, arith}
use Rattle.net.proofs.Sending.{some_left}
use Rattle.net.proofs.outgoing.Outgoing.is_sent.Goals as goal

pub returns-clause-unsent : goal.returns-clause-unsent
returns-clause-unsent c differs none =
    let below : c.self.inside.sent < length c.self.inside.bytes.items =
    grind (arith, c.self.invariant, c.len.ensures, differs) in
    some_left c.self.inside.bytes.items c.self.inside.sent below (c.self.view_is ∙ none)
