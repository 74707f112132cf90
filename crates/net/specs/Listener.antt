-- A listener, as its callers see it.
use Rattle.std.specs.Prelude.{◌≡◌, Bool, Option, IfSome}
use Rattle.std.specs.Arc.{arc_value}
use Rattle.std.specs.Global.{Global}
use Rattle.fd_descriptor.specs.declared.descriptor.FdHandle.{FdHandle}
use Rattle.fd_descriptor.specs.FdHandle.{marks_of, saw_closed}
use Rattle.fd_descriptor.specs.Marks.{SawTheEnd}
use Rattle.readiness.specs.Sockets.{is_tcp_addr}
use Rattle.readiness.specs.declared.addr.Addr.{Addr}
use Rattle.readiness.specs.declared.noted_listen.NotedListenRes.{NotedListenRes}
use Rattle.readiness.specs.declared.noted_listen.NotedListen.{NotedListen}
use Rattle.readiness.specs.declared.resources.NoWrites.{NoWrites}
use Rattle.net.specs.declared.guard.Guard.{Guard}
use Rattle.net.specs.declared.accepting.Listener.{Listener}

module _ {R : Type 0} where
  -- the handle by which this clone accepts and closes
  abbrev pub listening_handle : Listener R
      → FdHandle NotedListenRes Global NotedListen NoWrites (Unit {0})
  listening_handle listener = listener.handle

  -- this clone closed the listener, or was told that somebody did
  abbrev pub is_shut : Listener R → Bool
  is_shut listener = saw_closed (listening_handle listener)

  -- what all clones of a listener have in common
  abbrev pub common_of : Listener R → Guard R
  common_of listener = arc_value listener.guard

  -- where it listens, as the system told
  abbrev pub listens_at : Listener R → Option Addr
  listens_at listener = (common_of listener).local

  -- this clone has seen that the listener is ended, and that the socket is given back
  abbrev pub HasStopped : Listener R → Type 0
  HasStopped listener = SawTheEnd (marks_of (listening_handle listener))

  -- where it listens is an address of the family of the one that was asked for
  abbrev pub IsOfFamily : Addr → Listener R → Type 0
  IsOfFamily asked listener =
      IfSome (listens_at listener) (λ addr. is_tcp_addr addr ≡ is_tcp_addr asked)
