-- What a host is asked to do with its tasks.
use Rattle.readiness.specs.declared.agenda.Why.{Why}
use Rattle.readiness.specs.declared.tasks.Turn.{Turn}

-- a task is resumed for a reason, answers, and is left so; or a task that has ended is handed back
pub data HostCall (T : Type 0) : Type 0 where
  Resumed : (task : T) (why : Why) (answer : Turn) (left : T) → HostCall T
  Ended : (task : T) → HostCall T
