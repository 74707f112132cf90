-- What becomes of both ways of a connection, one after the other.
use Rattle.std.proofs.Common.{◌≡◌, ◌∙◌, ◌↔◌, ◌⊎◌, ℕ, Bool, true, false, refl, sym, ap, subst, inl, inr}
use Rattle.readiness.specs.declared.agenda.Why.{Why}
use Rattle.readiness.specs.declared.agenda.Why.TheVariants.{Time}
use Rattle.relay_core.specs.PairTasks.{flow_state_after, HasToClose, MayGoOn}
use Rattle.relay_core.specs.declared.pair_tasks.PairNext.{PairNext}
use Rattle.relay_core.specs.declared.pair_tasks.PairNext.TheVariants.{Closes, Again}
use Rattle.relay_core.specs.declared.passing.Step.{Step}
use Rattle.relay_core.specs.declared.ways.Way.TheVariants.{Up, Down}
use Rattle.relay_conn.specs.Flow.{heard, Went}
use Rattle.relay_conn.specs.Heard.{stop_told, GoesOn}
use Rattle.relay_conn.specs.Relaying.{GoneOn, WentDown, StaysDown}
use Rattle.relay_conn.specs.declared.relaying.Relaying.{Relaying}

-- what isn't true is false
is_false : (b : Bool) → (b ≡ true → ⊥) → b ≡ false
is_false true not = absurd (not refl)
is_false false not = refl

module _ {U D R : Type 0} where
  -- a relay went on, way after way, by what a loop heard that tells of no moment
  pub gone_on : (old mid after new : Relaying U D R) (why : Why) (next : PairNext) (goes_up goes_down : Bool)
      → (((now : ℕ) → why ≡ Time now → ⊥))
      → mid.up ≡ heard old.up (stop_told why Up) → mid.down ≡ heard old.down (stop_told why Down)
      → mid.tasks ≡ old.tasks
      → (goes_up ≡ true ↔ GoesOn old.tasks why Up) → (goes_down ≡ true ↔ GoesOn old.tasks why Down)
      → (goes_up ≡ true → (step : Step) × (Went mid.up after.up step)
      × (after.tasks.up ≡ flow_state_after step))
      → (goes_up ≡ false → after ≡ mid)
      → after.down ≡ mid.down → after.tasks.down ≡ mid.tasks.down
      → (goes_down ≡ true → ((step : Step) × (Went after.down new.down step)
      × (new.tasks.down ≡ flow_state_after step)) ⊎ (HasToClose new.tasks × (new ≡ after)))
      → (goes_down ≡ false → new ≡ after)
      → new.up ≡ after.up → new.tasks.up ≡ after.tasks.up
      → (next ≡ Closes ↔ HasToClose new.tasks) → (next ≡ Again ↔ MayGoOn new.tasks)
      → GoneOn old new why next
  gone_on old mid after new why next goes_up goes_down untimed up_heard down_heard tasks up_goes down_goes
      went_up stays_up down_same down_stands went_down stays_down up_same up_stands closes again = record {
        closes = closes;
        again = again;
        up = λ goes. let went = went_up (up_goes.1 goes) in record {
          step = went.0;
          went = subst (λ f. Went f new.up went.0) up_heard
              (subst (λ f. Went mid.up f went.0) (sym up_same) went.1);
          stands = up_stands ∙ went.2;
        };
        up_stays = λ at not. let stays = stays_up (is_false goes_up (λ goes. not (up_goes.0 goes))) in record {
          flow = up_same ∙ ap (λ (r : Relaying U D R). r.up) stays ∙ up_heard;
          stands = up_stands ∙ ap (λ (r : Relaying U D R). r.tasks.up) stays ∙ ap (λ t. t.up) tasks;
        };
        down = λ goes. elim (went_down (down_goes.1 goes))
            as (λ came. WentDown old new why ⊎ (HasToClose new.tasks × StaysDown old new why)) [
              | inl went ↦ inl (record {
                step = went.0;
                went = subst (λ f. Went f new.down went.0) (down_same ∙ down_heard) went.1;
                stands = went.2;
              })
              | inr over ↦ inr (
                over.0,
                record {
                  flow = ap (λ (r : Relaying U D R). r.down) over.1 ∙ down_same ∙ down_heard;
                  stands = ap (λ (r : Relaying U D R). r.tasks.down) over.1 ∙ down_stands ∙ ap (λ t. t.down) tasks;
                },
              )
            ];
        down_stays = λ at not. let stays = stays_down (is_false goes_down (λ goes. not (down_goes.0 goes))) in record {
          flow = ap (λ (r : Relaying U D R). r.down) stays ∙ down_same ∙ down_heard;
          stands = ap (λ (r : Relaying U D R). r.tasks.down) stays ∙ down_stands ∙ ap (λ t. t.down) tasks;
        };
        timed = λ way now is. absurd (untimed now is);
      }
