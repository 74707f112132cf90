-- A client, as its loop sees it.
use Rattle.std.specs.Prelude.{ℕ, Option, Some, None, List, Result, Ok, Err}
use Rattle.rwloops.specs.declared.fault.Fault.{Fault}
use Rattle.rwloops.specs.declared.fault.Fault.TheVariants as fault
use Rattle.http_server.specs.Connection.{history}
use Rattle.http_server.specs.Exchange.{Call}
use Rattle.http_server.specs.History.{History}
use Rattle.metrics_server.specs.declared.client.Client.{Client}

-- how many bytes a connection is told were read: none at the end of what its client says; nothing
-- where the read has to wait, or failed
abbrev pub told_of_read : Option (Result ℕ Fault) → Option ℕ
told_of_read (Some (Ok count)) = Some count
told_of_read (Some (Err fault.EndOfFile)) = Some 0
told_of_read _ = None

module _ {R : Type 0} where
  -- what its connection has received, answered and sent
  abbrev pub history_of : Client R → History
  history_of client = history client.connection

  -- the requests that were answered, each with its answer
  abbrev pub calls_of : Client R → List Call
  calls_of client = (history_of client).calls
