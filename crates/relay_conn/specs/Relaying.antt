-- What becomes of a connection whose target is connected.
use Rattle.std.specs.Prelude.{◌≡◌, ◌⊎◌, ◌↔◌, ℕ, Bool, true, false}
use Rattle.readiness.specs.declared.agenda.Why.{Why}
use Rattle.readiness.specs.declared.agenda.Why.TheVariants.{Time}
use Rattle.relay_core.specs.PairTasks.{flow_state_of, flow_state_after, HasToClose, MayGoOn}
use Rattle.relay_core.specs.declared.pair_tasks.PairNext.{PairNext}
use Rattle.relay_core.specs.declared.pair_tasks.PairTasks.{PairTasks}
use Rattle.relay_core.specs.declared.pair_tasks.PairNext.TheVariants.{Closes, Again}
use Rattle.relay_core.specs.declared.passing.Step.{Step}
use Rattle.relay_core.specs.declared.pair_tasks.FlowState.TheVariants.{Over, Ready}
use Rattle.relay_core.specs.declared.ways.Way.{Way}
use Rattle.relay_core.specs.declared.ways.Way.TheVariants.{Up, Down}
use Rattle.relay_conn.specs.Connection.{gives_up}
use Rattle.relay_conn.specs.Deadlines.{HasCome}
use Rattle.relay_conn.specs.Flow.{heard, Went}
use Rattle.relay_conn.specs.Heard.{stop_told, GoesOn, IsUntimed}
use Rattle.relay_conn.specs.declared.relaying.Relaying.{Relaying}

-- how ways stand that begin: the way up goes on at once where it has a header to write, and each else
-- once its source has something
abbrev pub begun_tasks : PairTasks → Bool → PairTasks
begun_tasks tasks true = record tasks { up = Ready }
begun_tasks tasks false = tasks

module _ {U D R : Type 0} where
  -- the way up, resumed by what a loop heard, went on and stands after its step
  pub record WentUp (old new : Relaying U D R) (why : Why) : Type 0 where
    pub step : Step
    pub went : Went (heard old.up (stop_told why Up)) new.up step
    pub stands : new.tasks.up ≡ flow_state_after step

  -- the same of the way down
  pub record WentDown (old new : Relaying U D R) (why : Why) : Type 0 where
    pub step : Step
    pub went : Went (heard old.down (stop_told why Down)) new.down step
    pub stands : new.tasks.down ≡ flow_state_after step

  -- the way up has no step, and knows what was told of its source
  pub record StaysUp (old new : Relaying U D R) (why : Why) : Type 0 where
    pub flow : new.up ≡ heard old.up (stop_told why Up)
    pub stands : new.tasks.up ≡ old.tasks.up

  -- the same of the way down
  pub record StaysDown (old new : Relaying U D R) (why : Why) : Type 0 where
    pub flow : new.down ≡ heard old.down (stop_told why Down)
    pub stands : new.tasks.down ≡ old.tasks.down

  -- a way that has given up by this moment has ended, by its deadline; one that hasn't stands as it
  -- did
  pub record Expires (old new : Relaying U D R) (way : Way) (now : ℕ) : Type 0 where
    pub late : HasCome (gives_up old way) now → flow_state_of new.tasks way ≡ Over
    pub fails : HasCome (gives_up old way) now → new.tasks.failed ≡ true
    pub early : (HasCome (gives_up old way) now → ⊥)
        → flow_state_of new.tasks way ≡ flow_state_of old.tasks way

  -- by what a loop heard each way that goes on has a step, but for the way down where the way up has
  -- ended the connection, and no other; by its moment each way that has given up ends, and no other
  pub record GoneOn (old new : Relaying U D R) (why : Why) (next : PairNext) : Type 0 where
    pub closes : next ≡ Closes ↔ HasToClose new.tasks
    pub again : next ≡ Again ↔ MayGoOn new.tasks
    pub up : GoesOn old.tasks why Up → WentUp old new why
    pub up_stays : IsUntimed why → (GoesOn old.tasks why Up → ⊥) → StaysUp old new why
    pub down : GoesOn old.tasks why Down
        → WentDown old new why ⊎ (HasToClose new.tasks × StaysDown old new why)
    pub down_stays : IsUntimed why → (GoesOn old.tasks why Down → ⊥) → StaysDown old new why
    pub timed : (way : Way) (now : ℕ) → why ≡ Time now → Expires old new way now
