-- What waits in the inbox of a loop.
use Rattle.std.specs.Prelude.{◌≡◌, ◌++◌, ◌∷◌, [], List, Option}
use Rattle.relay_facts.specs.declared.rule_sources.Seat.{Seat}
use Rattle.relay_shared.specs.declared.inbox.Accepted.{Accepted}
use Rattle.relay_shared.specs.declared.inbox.Counted.{Counted}
use Rattle.relay_shared.specs.declared.inbox.Inbox.{Inbox}
use Rattle.relay_shared.specs.declared.requests.Posted.{Posted}
use Rattle.relay_shared.specs.declared.requests.Request.{Request}

-- what counts a client counts it by this seat too
abbrev pub seated : Option Seat → Counted → Counted
seated seat counted = record counted { seat = seat }

-- the same but for the seat
abbrev pub IsSeated : Counted → Counted → Type 0
IsSeated old new = (seat : Option Seat) × (new ≡ seated seat old)

-- the sockets in an inbox, the one that came first ahead
abbrev pub sockets_in : Inbox → List Accepted
sockets_in inbox = inbox.sockets.items

-- the requests in an inbox, the one that came first ahead
abbrev pub requests_in : Inbox → List Posted
requests_in inbox = inbox.requests.items

-- a request as it lies in an inbox
abbrev pub posted : Request → Posted
posted request = record {
  place = request.ticket.place;
  number = request.ticket.number;
  question = request.question;
}

-- the request was left behind the others
abbrev pub IsLeft : Request → List Posted → List Posted → Type 0
IsLeft request old new = new ≡ old ++ posted request ∷ []

-- the request was the first, and was taken
abbrev pub IsTaken : Request → List Posted → List Posted → Type 0
IsTaken request old new = old ≡ posted request ∷ new
