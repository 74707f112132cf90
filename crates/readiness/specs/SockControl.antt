-- What the system is asked by about a connection's socket, as callers see it.
use Rattle.std.specs.Prelude.{ℤ, Bool}
use Rattle.readiness.specs.declared.sock_control.SockControl.{SockControl}

-- the system's number of the socket that is asked about
abbrev pub asked_number : SockControl → ℤ
asked_number control = control.number

-- the socket is one of TCP
abbrev pub asks_tcp : SockControl → Bool
asks_tcp control = control.tcp
