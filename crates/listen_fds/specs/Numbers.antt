-- The numbers of the sockets that a process was started with.
use Rattle.std.specs.Prelude.{ℕ}
use Rattle.listen_fds.specs.declared.numbers.ListenFds.{ListenFds}

-- the number that is taken next, unless it is the one behind the last
abbrev pub next_number : ListenFds → ℕ
next_number all = all.next

-- the number behind the last
abbrev pub number_behind : ListenFds → ℕ
number_behind all = all.end
