-- A poller, as callers see it.
use Rattle.std.specs.Prelude.{List}
use Rattle.std.specs.Arc.{arc_value}
use Rattle.mio.specs.declared.waker.Waker.{Waker}
use Rattle.readiness.specs.declared.batch.Ev.{Ev}
use Rattle.readiness.specs.declared.poller.Poller.{Poller}

-- what ends the turns of a poller early
abbrev pub waker_of : {A : Type 0} → Poller A → Waker
waker_of poller = arc_value poller.waker

-- what its last wait said
abbrev pub heard_by : {A : Type 0} → Poller A → List Ev
heard_by poller = poller.polled.evs.items
