-- What a loop has taken out of its inbox.
use Rattle.std.specs.Prelude.{◌≡◌, []}
use Rattle.relay_loops.specs.declared.taken.Delivered.{Delivered}
use Rattle.relay_shared.specs.Inbox.{requests_in, sockets_in}
use Rattle.relay_shared.specs.declared.inbox.Accepted.{Accepted}
use Rattle.relay_shared.specs.declared.inbox.Inbox.{Inbox}

-- a client's socket as it lay in the inbox
abbrev pub accepted_of : Delivered → Accepted
accepted_of delivered = record {
  sock = delivered.sock;
  acceptance = delivered.arrival.acceptance;
  counted = delivered.counted;
}

-- nothing waits there
abbrev pub NothingWaits : Inbox → Type 0
NothingWaits inbox = (requests_in inbox ≡ []) × (sockets_in inbox ≡ [])
