-- Which tasks were named since a loop last looked.
use Rattle.std.specs.Prelude.{◌≡◌, ◌≢◌, ◌⊎◌, ◌&&◌, ◌==◌, ℕ, Bool, true, not, Contains, AllPairs, length}
use Rattle.readiness.specs.declared.named_tasks.NamedTasks.{NamedTasks}

module _ {A : Type 0} where
  -- the task of this token is named, or all are
  abbrev pub IsTold : NamedTasks A → ℕ → Type 0
  IsTold told token = (told.all ≡ true) ⊎ Contains told.tokens.items token

  -- no token is named twice
  abbrev pub NamesOnce : NamedTasks A → Type 0
  NamesOnce told = AllPairs (λ token other. token ≢ other) told.tokens.items

  -- nobody is named
  abbrev pub is_none_told : NamedTasks A → Bool
  is_none_told told = not told.all && (length told.tokens.items == 0)
