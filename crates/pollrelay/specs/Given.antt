-- The sockets that the program was started with.
use Rattle.std.specs.Prelude.{◌≡◌, ◌≤◌, ◌-◌, ℕ, List, [], ◌∷◌, Option, Some, None, Result, Ok, Err, String}
use Rattle.std.specs.Global.{Global}
use Rattle.std.specs.String.{string_bytes}
use Rattle.std.specs.declared.env.VarError.{VarError}
use Rattle.listen_fds.specs.Numbers.{next_number, number_behind}
use Rattle.listen_fds.specs.Protocol.{HandsOver}
use Rattle.listen_fds.specs.declared.given_socket.GivenSocket.{GivenSocket}
use Rattle.listen_fds.specs.declared.given_socket.Unfit.{Unfit}
use Rattle.listen_fds.specs.declared.numbers.ListenFds.{ListenFds}
use Rattle.readiness.specs.declared.addr.Addr.{Addr}
use Rattle.readiness.specs.declared.sock.Listen.{Listen}
use Rattle.relay_main.specs.declared.listening.GivenListener.{GivenListener}
use Rattle.relay_shared.specs.Addr.{rule_address}

-- what a variable of the environment says; one that isn't set, or no text, says nothing
abbrev pub text_said : Result (String Global) VarError → List ℕ
text_said (Ok text) = string_bytes text
text_said (Err why) = []

-- these sockets are handed over, the first of which has the number 3; or none are
abbrev pub AreHandedOver : (own : ℕ) → (pid fds : List ℕ) → Option ListenFds → Type 0
AreHandedOver own pid fds (Some all) =
    (next_number all ≡ 3) × HandsOver own pid fds (number_behind all - 3)
AreHandedOver own pid fds None = (count : ℕ) → HandsOver own pid fds count → ⊥

-- a listener of a socket, if it is one for a rule
abbrev pub listeners_at : Result (Addr × Listen) Unfit → List GivenListener
listeners_at (Ok own) = record { addr = rule_address own.0; listener = own.1 } ∷ []
listeners_at (Err why) = []

-- why it is none
abbrev pub unfit_at : Result (Addr × Listen) Unfit → Option Unfit
unfit_at (Ok own) = None
unfit_at (Err why) = Some why

-- each of them was taken
abbrev pub AreTaken : ListenFds → Type 0
AreTaken all = number_behind all ≤ next_number all
