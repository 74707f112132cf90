-- How the sockets of a rule are set up.
use Rattle.std.specs.Prelude.{ℕ, ◌/◌, ◌-◌, ◌^◌, Option, min, option_map}
use Rattle.readiness.specs.declared.socket_options.TcpOptions.{TcpOptions}

-- a number as sockets take it: a larger one is the largest of 32 bits
abbrev pub option_number : ℕ → ℕ
option_number number = min number (2 ^ 32 - 1)

-- what is asked of connections over TCP, for keepalives and for bytes that aren't acknowledged, as a rule says it
-- in milliseconds: whole seconds for keepalives
abbrev pub tcp_options : Option ℕ → Option ℕ → TcpOptions
tcp_options keepalive user_timeout = record {
  keepalive_s = option_map (λ ms. option_number (ms / 1000)) keepalive;
  user_timeout_ms = option_map option_number user_timeout;
}
