use Rattle.std.proofs.Common.{◌≡◌, ◌<◌, ℕ, Some, length}
use Rattle.std.specs.Prelude.{slice_get}
use Rattle.relay_facts.specs.Targets.{IsSeenAs, are_checked}
use Rattle.relay_facts.specs.declared.target_list.CountedTarget.{CountedTarget}
use Rattle.target_pick.specs.Tried.{was_tried}
use Rattle.target_pick.specs.declared.seen.Seen.{Seen}
use Rattle.relay_facts.proofs.target_list.Targets.seen.Given as goal

abbrev pub invariant-loop-place : goal.invariant-loop-place
invariant-loop-place l = record {
  count : length l.seen.items ≡ l.place;
  each : (place : ℕ) (counted : CountedTarget) (one : Seen) → place < l.place
      → slice_get l.fn.self.all.items place ≡ Some counted → slice_get l.seen.items place ≡ Some one
      → IsSeenAs (are_checked l.fn.self) (was_tried l.tried place) counted.target one;
}
