-- One more of the tasks that end.
use Rattle.std.proofs.Common.{◌≡◌, ◌≢◌, ◌<◌, ◌+◌, ◌∙◌, ◌⊎◌, inl, inr, sym, ap, ℕ, List, eq-or-lt_of_le, arith}
use Rattle.std.specs.Prelude.{None, Some, slice_get}
use Rattle.std.specs.Option.{option_map_or}
use Rattle.readiness.specs.LoopToken.{place_in}
use Rattle.readiness.specs.Tasks.{task_in}
use Rattle.readiness.specs.declared.tasks.Tasks.{Tasks}
use Rattle.relay_main.specs.ListenersEnd.{AreEndedOf, task_place, token_at}
use Rattle.relay_main.specs.declared.rule_listeners.Listening.{Listening}

-- the token of a listener that was read
token_read : (all : List Listening) (k : ℕ) (one : Listening) → slice_get all k ≡ Some one
    → token_at all k ≡ one.token
token_read all k one is = ap (λ found. option_map_or (λ (one : Listening). one.token) found 0) is

module _ {T A : Type 0} (listening : List Listening) (count : ℕ) (old mid new : Tasks T A) where
  -- the token behind those that were ended has no task, and each other place has what it had
  abbrev pub IsNext : Type 0
  IsNext = (task_in new (token_at listening count) ≡ None)
      × ((other : ℕ) → place_in other ≢ task_place listening count → task_in new other ≡ task_in mid other)

  gone_at : AreEndedOf listening count old mid → IsNext → (k : ℕ) → (k ≡ count) ⊎ (k < count)
      → ((j : ℕ) → k < j → j < count + 1 → task_place listening j ≢ task_place listening k)
      → task_in new (token_at listening k) ≡ None
  gone_at before next k (inl is) last = ap (λ i. task_in new (token_at listening i)) is ∙ next.0
  gone_at before next k (inr lt) last =
      next.1 (token_at listening k) (λ same. last count lt (omega arith) (sym same))
      ∙ before.gone k lt (λ j above below. last j above (omega (arith, below)))

  -- so one more is ended
  pub one_more : AreEndedOf listening count old mid → IsNext → AreEndedOf listening (count + 1) old new
  one_more before next = record {
    gone = λ k lt last. gone_at before next k (eq-or-lt_of_le (omega (arith, lt))) last;
    others = λ other apart. next.1 other (apart count (omega arith))
        ∙ before.others other (λ k lt. apart k (omega (arith, lt)));
  }

  -- the same of a listener that was read
  pub one_more_read : (one : Listening) → slice_get listening count ≡ Some one
      → task_in new one.token ≡ None
      → ((other : ℕ) → place_in other ≢ place_in one.token → task_in new other ≡ task_in mid other)
      → AreEndedOf listening count old mid → AreEndedOf listening (count + 1) old new
  one_more_read one is gone others before =
      let token = token_read listening count one is in
      one_more before (
        ap (task_in new) token ∙ gone,
        λ other apart. others other (λ same. apart (same ∙ ap place_in (sym token))),
      )
