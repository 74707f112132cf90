-- What the two variables of the environment say.
use Rattle.std.specs.Prelude.{◌≡◌, ◌<◌, ◌≤◌, ℕ, List, decimal}
use Rattle.listen_fds.specs.declared.protocol.TheConstants.{MAX_SOCKETS}

-- they hand so many sockets over to the process with this number: LISTEN_PID spells its number, and
-- LISTEN_FDS spells how many there are
abbrev pub HandsOver : (own : ℕ) → (pid fds : List ℕ) → (count : ℕ) → Type 0
HandsOver own pid fds count =
    (pid ≡ decimal own) × (fds ≡ decimal count) × (0 < count) × (count ≤ MAX_SOCKETS)
