-- Until when a client is awaited to say who it is.
use Rattle.std.specs.Prelude.{◌+◌, ◌*◌, ◌-◌, ◌^◌, ℕ, min}
use Rattle.relay_facts.specs.declared.connection_facts.Acceptance.{Acceptance}

-- a client has five seconds from its accept
abbrev pub header_moment : Acceptance → ℕ
header_moment client = min (client.at + 5000 * 1000000) (2 ^ 64 - 1)
