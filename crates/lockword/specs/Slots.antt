-- The slots that a `Last` holds. No public clause cites this module.
use Rattle.std.specs.Prelude.{[], ◌∷◌}
use Rattle.lockword.specs.Words.{ℕ, List, Bool, true, false}
use Rattle.lockword.specs.declared.shared_rule.Half.{Half}
use Rattle.lockword.specs.declared.shared_rule.Half.TheVariants as half
use Rattle.lockword.specs.declared.shared_rule.TheConstants.{READ_HALF, WRITE_HALF}

-- both slots without their halves once they were taken, and none before
abbrev pub slots_of : {R W : Type 0} → Bool → List (ℕ × Half R W)
slots_of true = (WRITE_HALF, half.Away) ∷ (READ_HALF, half.Away) ∷ []
slots_of false = []
