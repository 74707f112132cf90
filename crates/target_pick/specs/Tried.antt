-- Which targets were tried for a client.
use Rattle.std.specs.Prelude.{◌≡◌, ◌+◌, ℕ, zero, suc, Bool, true, false, nat_eq}
use Rattle.std.specs.Int.{bit_at}
use Rattle.target_pick.specs.declared.tried.Tried.{Tried}

-- the target at this place was tried
abbrev pub was_tried : Tried → ℕ → Bool
was_tried tried place = nat_eq (bit_at tried.bits place) 1

-- those that were tried were tried still
abbrev pub KeepsTried : Tried → Tried → Type 0
KeepsTried old new = (place : ℕ) → was_tried old place ≡ true → was_tried new place ≡ true

-- ---- A measure of what is left

abbrev pub one_untried : Bool → ℕ
one_untried true = 0
one_untried false = 1

unfoldable pub untried_below : Tried → ℕ → ℕ
untried_below tried zero = 0
untried_below tried (suc count) = one_untried (was_tried tried count) + untried_below tried count

-- how many of 64 places weren't tried
unfoldable pub untried : Tried → ℕ
untried tried = untried_below tried 64
