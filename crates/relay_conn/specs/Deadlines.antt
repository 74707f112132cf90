-- The moments at which a connection's calls give up.
use Rattle.std.specs.Prelude.{◌≡◌, ◌≤◌, ℕ, ◌+◌, ◌*◌, ◌-◌, ◌^◌, min, Option, Some, None, List, ◌∷◌}
use Rattle.std.specs.Prelude.{Bool, true, false}
use Rattle.base_types.specs.declared.direction.Dir.{Dir}
use Rattle.base_types.specs.declared.direction.Dir.TheVariants as dir
use Rattle.deadline_core.specs.CallHistory.{CallEvent, Begun, Answered, Told, HasHistory, moment_of}
use Rattle.deadline_core.specs.declared.call_deadlines.CallDeadlines.{CallDeadlines}
use Rattle.deadline_core.specs.declared.deadline.Deadline.{Deadline}
use Rattle.relay_core.specs.declared.pair_tasks.FlowState.{FlowState}
use Rattle.relay_core.specs.declared.pair_tasks.FlowState.TheVariants.{Waits}

-- a moment stands, and has come
abbrev pub HasCome : Option ℕ → ℕ → Type 0
HasCome None now = ⊥
HasCome (Some at) now = at ≤ now

-- of a call that begins with this idle time: it gives up that long from some moment, or has no
-- moment of its own
abbrev pub IsIdleEnd : Option ℕ → Option ℕ → Type 0
IsIdleEnd None own = own ≡ None
IsIdleEnd (Some ms) own = (now : ℕ) × (own ≡ Some (min (now + ms * 1000000) (2 ^ 64 - 1)))

-- when the calls of a direction give up
abbrev pub limit_in : CallDeadlines → Dir → Deadline
limit_in deadlines dir.Read = deadlines.read.deadline
limit_in deadlines dir.Write = deadlines.write.deadline

-- the same, as a moment
abbrev pub limit_moment : CallDeadlines → Dir → Option ℕ
limit_moment deadlines of = moment_of (limit_in deadlines of)

-- the moment at which a way gives up that stands so: that of the call that it waits for
abbrev pub gives_up_at : CallDeadlines → FlowState → Option ℕ
gives_up_at deadlines (Waits of) = limit_moment deadlines of
gives_up_at deadlines other = None

-- a call begins in this direction, by this idle time
pub record BeginsCall (idle_ms : Option ℕ) (old new : CallDeadlines) (of : Dir) : Type 0 where
  pub own : Option ℕ
  pub idle : IsIdleEnd idle_ms own
  pub begun : (events : List CallEvent) → HasHistory old events → HasHistory new (Begun of own ∷ events)

-- the calls of this direction were told when they give up
abbrev pub TellsCalls : CallDeadlines → CallDeadlines → Dir → Deadline → Type 0
TellsCalls old new of deadline =
    (events : List CallEvent) → HasHistory old events → HasHistory new (Told of deadline ∷ events)

-- a call of this direction is under way: it was before, and goes on as it was timed, or it has begun,
-- by this idle time
pub record IsTimed (was_under_way : Bool) (idle_ms : Option ℕ) (old new : CallDeadlines) (of : Dir) :
    Type 0 where
  pub goes_on : was_under_way ≡ true → new ≡ old
  pub begins : was_under_way ≡ false → BeginsCall idle_ms old new of

-- the same, and it has its answer
pub record IsOver (was_under_way : Bool) (idle_ms : Option ℕ) (old new : CallDeadlines) (of : Dir) :
    Type 0 where
  pub between : CallDeadlines
  pub timed : IsTimed was_under_way idle_ms old between of
  pub ended : (events : List CallEvent) → HasHistory between events
      → HasHistory new (Answered of ∷ events)
