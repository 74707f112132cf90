-- What a cell's lock guards: which calls its poll state has had, who is parked, and who has to be
-- woken.
use Rattle.std.specs.Prelude.{◌≡◌, Bool, true, false, List, ◌∷◌}
use Rattle.base_types.specs.declared.direction.Dir.{Dir}
use Rattle.base_types.specs.declared.direction.Dir.TheVariants.{Read, Write}
use Rattle.deadline_core.specs.declared.poll_state.Look.{Look}
use Rattle.deadline_core.specs.declared.poll_state.Look.TheVariants.{Refused, Go, Park}
use Rattle.deadline_core.specs.PollHistory.{Call, Evicted, StandsFor}
use Rattle.fd_descriptor.specs.declared.watched.Watched.{Watched}
use Rattle.fd_descriptor.specs.declared.watched.Parked.{Parked}

-- the poll state stands for these calls, newest first
abbrev pub IsAfter : Watched → List Call → Type 0
IsAfter w calls = StandsFor w.state calls

-- somebody may be parked in this direction
abbrev pub is_parked : Watched → Dir → Bool
is_parked w Read = w.read_parked
is_parked w Write = w.write_parked

-- this direction's callers have to be woken
abbrev pub is_woken : Parked → Dir → Bool
is_woken p Read = p.read
is_woken p Write = p.write

-- the answer of a look is to park
abbrev pub is_park : Look → Bool
is_park Park = true
is_park Go = false
is_park (Refused refusal) = false

-- a state of the cell stands now for the calls that it stood for and that it was made closing, and
-- nobody is parked in it any more
pub record WasEvicted : Type 0 where
  pub before : Watched
  pub after : Watched
  pub evicted : (calls : List Call) → IsAfter before calls → IsAfter after (Evicted ∷ calls)
  pub nobody : (d : Dir) → is_parked after d ≡ false
