-- What an end of a service that was asked for leaves with who asked.
use Rattle.std.specs.Prelude.{◌≡◌, ℕ, Some}
use Rattle.std.specs.declared.time.Duration.{Duration}
use Rattle.deadline_core.specs.declared.deadline.Deadline.{Deadline}
use Rattle.net.specs.LastCall.{called_id}
use Rattle.net.specs.Limits.{moment_of}
use Rattle.net.specs.Service.{loops_in, listener_in}
use Rattle.net.specs.declared.asked.Asked.{Asked}
use Rattle.net.specs.declared.closer.Ends.{Ends}
use Rattle.net.specs.declared.last_call.LastCall.{LastCall}

-- how many loops were told
abbrev pub asked_loops : Asked → ℕ
asked_loops asked = asked.told.loops

-- by when their tasks end
abbrev pub asked_until : Asked → Deadline
asked_until asked = asked.told.until

-- the last call at the listener
abbrev pub asked_listener : Asked → LastCall
asked_listener asked = asked.listener

-- the end of this service was asked for: each of its loops was told that its tasks end by so long after a
-- moment, and the last call at its listener has been
pub record IsAskedOf {R : Type 0} (ends : Ends R) (within : Duration) (asked : Asked) : Type 0 where
  pub loops : asked_loops asked ≡ loops_in ends
  pub listener : called_id (asked_listener asked) ≡ listener_in ends
  pub now : ℕ
  pub until : asked_until asked ≡ moment_of now (Some within)

-- some service was asked so to end
abbrev pub IsAskedSomewhere : (R : Type 0) → Duration → Asked → Type 0
IsAskedSomewhere R within asked = (ends : Ends R) × IsAskedOf ends within asked
