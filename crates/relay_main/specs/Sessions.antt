-- Which admin session gives its place up to another.
use Rattle.std.specs.Prelude.{◌≡◌, ◌<◌, ◌≤◌, ◌⊎◌, ℕ, List, Option, Some, None, Bool, true, false, length}
use Rattle.std.specs.Prelude.{if◌then◌else◌, nat_le, replicate, slice_get, slice_set}
use Rattle.std.specs.List.{list_any}
use Rattle.std.specs.Box.{box_value}
use Rattle.std.specs.Global.{Box}
use Rattle.readiness.specs.Tasks.{task_in}
use Rattle.readiness.specs.declared.tasks.Tasks.{Tasks}
use Rattle.relay_main.specs.declared.main_task.MainTask.{MainTask}
use Rattle.relay_main.specs.declared.main_task.MainTask.TheVariants as task
use Rattle.relay_main.specs.declared.session.SessionStep.{SessionStep}
use Rattle.relay_main.specs.declared.session.SessionStep.TheVariants.{Over, Waits}
use Rattle.relay_main.specs.declared.sessions.Seated.{Seated}
use Rattle.relay_main.specs.declared.sessions.Sessions.{Sessions}
use Rattle.relay_main.specs.Session.{is_held}

-- the session at this place may give it up: it waits for no answer
abbrev pub MayLeave : List (Option (Box Seated)) → ℕ → Box Seated → Type 0
MayLeave places place session =
    (slice_get places place ≡ Some (Some session))
    × (is_held (box_value session).session.state ≡ false)

-- until when a session stands that doesn't get on: so long after it last did
abbrev pub patience : Box Seated → ℕ
patience session = (box_value session).until

-- of those at the first places that may leave, the session at this place has got nowhere for
-- longest, and those before it not as long
pub record IsQuietestOf (places : List (Option (Box Seated))) (count : ℕ) (place : ℕ)
    (session : Box Seated) : Type 0 where
  pub leaves : MayLeave places place session
  pub longest : (k : ℕ) (other : Box Seated) → k < count → MayLeave places k other
      → patience session ≤ patience other
  pub first : (k : ℕ) (other : Box Seated) → k < place → MayLeave places k other
      → patience session < patience other

-- the same of all sessions
abbrev pub IsQuietest : List (Option (Box Seated)) → ℕ → Box Seated → Type 0
IsQuietest places place session = IsQuietestOf places (length places) place session

-- none of those at the first places may leave
abbrev pub NoneMayLeave : List (Option (Box Seated)) → ℕ → Type 0
NoneMayLeave places count =
    (k : ℕ) (session : Box Seated) → k < count → MayLeave places k session → ⊥

-- the session at this place waits for an answer
abbrev pub is_held_at : Option (Box Seated) → Bool
is_held_at (Some session) = is_held (box_value session).session.state
is_held_at None = false

-- the reply of one of them does
abbrev pub are_held : List (Option (Box Seated)) → Bool
are_held places = list_any is_held_at places

-- the session at this place waits for no answer
abbrev pub IsFreeAt : List (Option (Box Seated)) → ℕ → Type 0
IsFreeAt places place = (session : Box Seated) × MayLeave places place session

-- no session is at this place
abbrev pub IsNobodyAt : List (Option (Box Seated)) → ℕ → Type 0
IsNobodyAt places place = (session : Box Seated) → slice_get places place ≡ Some (Some session) → ⊥

-- the places, each with its session, if it has one
abbrev pub seats_in : Sessions → List (Option (Box Seated))
seats_in sessions = sessions.places.items

-- what follows for a session that came to this step: it has ended where it waits for its client, and
-- for no answer, and its time is over
abbrev pub timed_step : SessionStep → Bool → (until now : ℕ) → SessionStep
timed_step Waits false until now = if nat_le until now then Over else Waits
timed_step step is_held until now = step

-- one more session has begun, in a place whose name its task has, and all others stay but one that
-- was there
abbrev pub HasSeated : {R A : Type 0} → (old new : List (Option (Box Seated))) → Tasks (MainTask R) A → Type 0
HasSeated old new tasks = (place : ℕ) × (session : Box Seated) × (place < length old)
    × (new ≡ slice_set old place (Some session))
    × (task_in tasks (box_value session).token ≡ Some (task.Session place))

-- all sessions stay, or one has given up its place
abbrev pub StayButOne : (old new : List (Option (Box Seated))) → Type 0
StayButOne old new = (new ≡ old) ⊎ ((place : ℕ) × (new ≡ slice_set old place None))
