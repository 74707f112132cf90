-- What a service that is over leaves.
use Rattle.std.specs.Prelude.{◌≡◌, ℕ, Option}
use Rattle.net.specs.Gone.{gone_id}
use Rattle.net.specs.Service.{loops_of, listens_as}
use Rattle.net.specs.declared.asked.Asked.{Asked}
use Rattle.net.specs.declared.gone.Gone.{Gone}
use Rattle.net.specs.declared.over.Ended.{Ended}
use Rattle.net.specs.declared.service.Service.{Service}

-- how many loops have ended
abbrev pub over_loops : Ended → ℕ
over_loops ended = ended.loops.loops

-- how many of their tasks were ended with them
abbrev pub cut_of : Ended → ℕ
cut_of ended = ended.loops.cut

-- the listener that went
abbrev pub over_listener : Ended → Gone
over_listener ended = ended.listener

-- the end that was asked for, by who then waited
abbrev pub over_asked : Ended → Option Asked
over_asked ended = ended.asked

-- the service is over: each of its loops has ended, and its listener is out of the net
pub record IsOver {R : Type 0} (service : Service R) (ended : Ended) : Type 0 where
  pub loops : over_loops ended ≡ loops_of service
  pub listener : gone_id (over_listener ended) ≡ listens_as service
