-- The calls made on one poll state with their answers, newest first, and what such a list says.
use Rattle.std.specs.Prelude.{◌≡◌, ℕ, Bool, true, false, ◌&&◌, not, List, [], ◌∷◌, ◌++◌, Option}
use Rattle.std.specs.Prelude.{Some, None, Result, Ok, Err, is_ok, nat_le, find, take_while}
use Rattle.std.specs.Prelude.{if◌then◌else◌}
use Rattle.std.specs.List.{list_any, filter_map}
use Rattle.base_types.specs.declared.direction.Dir.{Dir}
use Rattle.base_types.specs.declared.direction.Dir.TheVariants.{Read, Write}
use Rattle.deadline_core.specs.declared.deadline.Dirs.{Dirs}
use Rattle.deadline_core.specs.declared.deadline.Dirs.TheVariants.{Read as ReadAlone}
use Rattle.deadline_core.specs.declared.deadline.Dirs.TheVariants.{Write as WriteAlone, Both}
use Rattle.deadline_core.specs.declared.deadline.Deadline.{Deadline}
use Rattle.deadline_core.specs.declared.deadline.Deadline.TheVariants.{Never, At}
use Rattle.deadline_core.specs.declared.refusal.Refusal.{Refusal}
use Rattle.deadline_core.specs.declared.refusal.Refusal.TheVariants.{Closed, DeadlineExceeded}
use Rattle.deadline_core.specs.declared.poll_state.Look.{Look}
use Rattle.deadline_core.specs.declared.poll_state.Look.TheVariants.{Refused, Go, Park}
use Rattle.deadline_core.specs.declared.poll_state.Side.{Side}
use Rattle.deadline_core.specs.declared.poll_state.PollState.{PollState}

-- a call that was made, with its answer where it has one
pub data Call : Type 0 where
  Prepared : (dir : Dir) (answer : Result (Unit {0}) Refusal) → Call
  Looked : (dir : Dir) (answer : Look) → Call
  Readied : (dir : Dir) → Call
  DeadlineSet : (dirs : Dirs) (deadline : Deadline) (now : ℕ) (answer : Result (Unit {0}) Refusal) →
      Call
  Ticked : (now : ℕ) → Call
  Evicted : Call

-- two directions are one
abbrev pub same_dir : Dir → Dir → Bool
same_dir Read Read = true
same_dir Read Write = false
same_dir Write Read = false
same_dir Write Write = true

-- a deadline for these directions is one for this direction
abbrev pub covers : Dirs → Dir → Bool
covers ReadAlone dir = same_dir Read dir
covers WriteAlone dir = same_dir Write dir
covers Both dir = true

-- the answer of a look is to try again
abbrev pub is_go : Look → Bool
is_go Go = true
is_go Park = false
is_go (Refused refusal) = false

-- the call makes the state closing
abbrev pub is_evicted : Call → Bool
is_evicted Evicted = true
is_evicted _ = false

-- the call sets the deadline of this direction; a refused one doesn't
abbrev pub sets : Dir → Call → Bool
sets dir (DeadlineSet dirs deadline now answer) = covers dirs dir && is_ok answer
sets dir _ = false

-- the call says that this direction is ready
abbrev pub readies : Dir → Call → Bool
readies dir (Readied of) = same_dir of dir
readies dir _ = false

-- the call gives this direction a notice, forgets it, or uses it up
abbrev pub moves_notice : Dir → Call → Bool
moves_notice dir (Readied of) = same_dir of dir
moves_notice dir (Prepared of answer) = same_dir of dir && is_ok answer
moves_notice dir (Looked of answer) = same_dir of dir && is_go answer
moves_notice dir _ = false

-- the moment of a tick
abbrev pub tick_moment : Call → Option ℕ
tick_moment (Ticked now) = Some now
tick_moment _ = None

-- the deadline that a call sets, or none
abbrev pub deadline_in : Option Call → Deadline
deadline_in (Some (DeadlineSet dirs deadline now answer)) = deadline
deadline_in _ = Never

-- the moment at which a call sets a deadline
abbrev pub moment_in : Option Call → List ℕ
moment_in (Some (DeadlineSet dirs deadline now answer)) = now ∷ []
moment_in _ = []

-- the call says that a direction is ready
abbrev pub is_readied : Option Call → Bool
is_readied (Some (Readied dir)) = true
is_readied _ = false

-- the state is closing: it was evicted at some time
abbrev pub closing : List Call → Bool
closing calls = list_any is_evicted calls

-- the last call that set the deadline of this direction
abbrev pub last_set : Dir → List Call → Option Call
last_set dir calls = find (sets dir) calls

-- the calls made since the deadline of this direction was last set
abbrev pub since_set : Dir → List Call → List Call
since_set dir calls = take_while (λ call. not (sets dir call)) calls

-- the deadline that a direction has
abbrev pub deadline_of : Dir → List Call → Deadline
deadline_of dir calls = deadline_in (last_set dir calls)

-- the moments that a direction's deadline has lived through: its setting and each tick since
abbrev pub moments_of : Dir → List Call → List ℕ
moments_of dir calls = filter_map tick_moment (since_set dir calls) ++ moment_in
    (last_set dir calls)

-- a deadline has passed at one of these moments, or before it
abbrev pub passed : Deadline → List ℕ → Bool
passed Never moments = false
passed (At moment) moments = list_any (nat_le moment) moments

-- a direction is expired: its deadline has passed at its setting or at a tick since
abbrev pub expired : Dir → List Call → Bool
expired dir calls = passed (deadline_of dir calls) (moments_of dir calls)

-- a direction has a notice: the last call that moved it said that the direction is ready
abbrev pub notice : Dir → List Call → Bool
notice dir calls = is_readied (find (moves_notice dir) calls)

-- why a direction is refused; closing comes before expiry
abbrev pub why_refused : Bool → Bool → Option Refusal
why_refused is_closing is_expired = if is_closing then Some Closed else
    (if is_expired then Some DeadlineExceeded else None)

-- why a read or a write is refused after these calls
abbrev pub refusal_of : Dir → List Call → Option Refusal
refusal_of dir calls = why_refused (closing calls) (expired dir calls)

-- a refusal as an answer
abbrev pub ok_unless : Option Refusal → Result (Unit {0}) Refusal
ok_unless None = Ok tt
ok_unless (Some refusal) = Err refusal

-- what a look answers, by the refusal and the notice
abbrev pub look_at : Option Refusal → Bool → Look
look_at (Some refusal) is_ready = Refused refusal
look_at None is_ready = if is_ready then Go else Park

-- what a prepare answers after these calls
abbrev pub prepare_answer : Dir → List Call → Result (Unit {0}) Refusal
prepare_answer dir calls = ok_unless (refusal_of dir calls)

-- what a look answers after these calls
abbrev pub look_answer : Dir → List Call → Look
look_answer dir calls = look_at (refusal_of dir calls) (notice dir calls)

-- what a set answers after these calls: a state that is closing refuses it
abbrev pub set_answer : List Call → Result (Unit {0}) Refusal
set_answer calls = if closing calls then Err Closed else Ok tt

-- what is kept of a direction is what the calls say of it
pub record SideStandsFor (side : Side) (dir : Dir) (calls : List Call) : Type 0 where
  pub deadline : side.deadline ≡ deadline_of dir calls
  pub expired : side.expired ≡ expired dir calls
  pub ready : side.ready ≡ notice dir calls

-- the state stands for this list of calls
pub record StandsFor (state : PollState) (calls : List Call) : Type 0 where
  pub closing : state.closing ≡ closing calls
  pub read : SideStandsFor state.read Read calls
  pub write : SideStandsFor state.write Write calls
