-- A handle that closes a listener or a connection.
use Rattle.std.specs.Prelude.{ℕ}
use Rattle.net.specs.declared.socket_closer.SocketCloser.{SocketCloser}

-- the id in its net's table of what it closes
abbrev pub closes : {R : Type 0} → SocketCloser R → ℕ
closes closer = closer.id
