-- What a host keeps of its calls, oldest first, as its trait tells it, newest first.
use Rattle.std.specs.Prelude.{ℕ, List, map, reverse, Option, Some, None}
use Rattle.readiness.specs.HostCalls.{HostCall, Resumed, Ended}
use Rattle.readiness.specs.declared.agenda.Why.{Why}
use Rattle.readiness.specs.declared.tasks.Turn.{Turn}

-- a task was resumed for a reason, answered and was left so; or it has ended
abbrev pub host_call_of : ℕ → Option (Why × Turn × ℕ) → HostCall ℕ
host_call_of task (Some went) = Resumed task went.0 went.1 went.2
host_call_of task None = Ended task

abbrev pub host_calls_of : List (ℕ × Option (Why × Turn × ℕ)) → List (HostCall ℕ)
host_calls_of kept = map (λ one. host_call_of one.0 one.1) (reverse kept)
