-- When a relay that finishes has finished.
use Rattle.std.specs.Prelude.{◌≡◌, ◌≤◌, ◌⊎◌, ℕ, Bool, true, false, Option, Some, None}

-- it is to finish at this moment at the latest, or not at all: the moment has come, or no connection
-- stands, and no session's reply waits for an answer
abbrev pub HasFinished : Option ℕ → (now standing : ℕ) → (is_held : Bool) → Type 0
HasFinished (Some at) now standing is_held = (at ≤ now) ⊎ ((standing ≡ 0) × (is_held ≡ false))
HasFinished None now standing is_held = ⊥

-- it turns no more: a session said stop, or it has finished
abbrev pub IsOver : (is_stopped : Bool) → Option ℕ → (now standing : ℕ) → (is_held : Bool) → Type 0
IsOver is_stopped finish_at now standing is_held =
    (is_stopped ≡ true) ⊎ HasFinished finish_at now standing is_held
