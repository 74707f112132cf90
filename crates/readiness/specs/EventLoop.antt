-- A loop and its remote, as callers see them.
use Rattle.std.specs.Prelude.{ℕ, List}
use Rattle.std.specs.Arc.{arc_value}
use Rattle.mio.specs.declared.waker.Waker.{Waker}
use Rattle.readiness.specs.Poller.{heard_by}
use Rattle.readiness.specs.declared.batch.Ev.{Ev}
use Rattle.readiness.specs.declared.loop_driver.LoopDriver.{LoopDriver}
use Rattle.readiness.specs.declared.loop_remote.LoopRemote.{LoopRemote}
use Rattle.readiness.specs.declared.loop_remote.RemoteAlarms.{RemoteAlarms}
use Rattle.readiness.specs.declared.event_loop.EventLoop.{EventLoop}
use Rattle.readiness.specs.declared.poller.Poller.{Poller}
use Rattle.readiness.specs.declared.tasks.Tasks.{Tasks}

-- what wakes the loop behind a remote
abbrev pub waker_behind : {A : Type 0} → LoopRemote A → Waker
waker_behind remote = arc_value remote.waker

-- the poller of a driver
abbrev pub driver_poller : {A : Type 0} → LoopDriver A → Poller A
driver_poller driver = driver.poller

-- the remote of a driver
abbrev pub driver_remote : {A : Type 0} → LoopDriver A → LoopRemote A
driver_remote driver = arc_value driver.remote

module _ {T A : Type 0} where
  -- the tasks of a loop
  abbrev pub tasks_of : EventLoop T A → Tasks T A
  tasks_of loop = loop.tasks

  -- the poller of a loop
  abbrev pub poller_of : EventLoop T A → Poller A
  poller_of loop = loop.poller

  -- the remote of a loop
  abbrev pub remote_in : EventLoop T A → LoopRemote A
  remote_in loop = arc_value loop.remote

  -- the remote of the loop whose timers these alarms arm
  abbrev pub remote_of : RemoteAlarms T A → LoopRemote A
  remote_of alarms = arc_value alarms.remote

  -- what the last wait of a loop said
  abbrev pub events_in : EventLoop T A → List Ev
  events_in loop = heard_by loop.poller

  -- the tokens that were named when a loop looked last
  abbrev pub told_in : EventLoop T A → List ℕ
  told_in loop = loop.told.items

  -- the tokens of those that gave way before a loop's turn
  abbrev pub round_in : EventLoop T A → List ℕ
  round_in loop = loop.round.items
