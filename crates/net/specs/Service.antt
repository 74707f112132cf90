-- A service, as its callers see it.
use Rattle.std.specs.Prelude.{ℕ, Bool, true, false, Option, vec_len}
use Rattle.std.specs.Arc.{arc_value}
use Rattle.std.specs.declared.io.ErrorKind.{ErrorKind}
use Rattle.std.specs.declared.io.ErrorKind.TheVariants.{NotConnected, TimedOut}
use Rattle.readiness.specs.declared.addr.Addr.{Addr}
use Rattle.net.specs.declared.closer.Ends.{Ends}
use Rattle.net.specs.declared.closer.ServiceCloser.{ServiceCloser}
use Rattle.net.specs.declared.service.Service.{Service}
use Rattle.net.specs.Listener.{listens_at, common_of}

-- an accept that fails so may be the last: the listener is closed, or its last call came
abbrev pub is_last_accept : ErrorKind → Bool
is_last_accept NotConnected = true
is_last_accept TimedOut = true
is_last_accept _ = false

module _ {R : Type 0} where
  -- where its listener listens
  abbrev pub serves_at : Service R → Option Addr
  serves_at service = listens_at service.listener

  -- what a service has for who ends it
  abbrev pub closer_of : Service R → ServiceCloser R
  closer_of service = service.closer

  -- what all have in common who end one service
  abbrev pub ends_of : ServiceCloser R → Ends R
  ends_of closer = arc_value closer.ends

  -- how many loops a service has
  abbrev pub loops_in : Ends R → ℕ
  loops_in ends = vec_len ends.doors

  -- the id of its listener in the table of its net
  abbrev pub listener_in : Ends R → ℕ
  listener_in ends = ends.listener

  -- how many of its loops run
  abbrev pub loops_of : Service R → ℕ
  loops_of service = vec_len service.loops

  -- the id of its own listener
  abbrev pub listens_as : Service R → ℕ
  listens_as service = (common_of service.listener).id
