-- A relay's clock, as its callers see it.
use Rattle.std.specs.declared.time.Instant.{Instant}
use Rattle.relay_facts.specs.declared.clock.RelayClock.{RelayClock}

-- the moment from which it counts
abbrev pub start_of : {R : Type 0} → RelayClock R → Instant
start_of clock = clock.start
