-- A half at home: what the slot of a direction held at some moment.
use Rattle.std.specs.Prelude.{◌≡◌}
use Rattle.lockword.specs.Words.{ℕ, List, some, get_elem?, Dir, Op}
use Rattle.lockword.specs.declared.local_view.LocalView.{LocalView}
use Rattle.lockword.specs.declared.shared_rule.Half.{Half}
use Rattle.lockword.specs.Directions.{slot_of}
use Rattle.lockword.specs.Moment.{Moment}
use Rattle.lockword.specs.SharedInvariant.{IsReached}

-- at some moment, at which the rule held, a seat had made just these operations, and this was at
-- home in the slot of the direction's half
pub record WasHome (R W : Type 0) (d : Dir) (content : Half R W) (did : List Op) : Type 0 where
  pub moment : Moment R W
  pub rule : IsReached moment
  pub seat : ℕ
  pub view : LocalView
  pub own : get_elem? moment.views seat ≡ some view
  pub made : view.did ≡ did
  pub home : get_elem? moment.homes (slot_of d) ≡ some (some content)
