-- The word that a run leaves.
use Rattle.std.specs.Prelude.{◌≡◌, ℕ}
use Rattle.lockword_core.specs.declared.word.Word.{Word}
use Rattle.lockword_core.specs.Word.{packed}
use Rattle.lockword.specs.declared.local_view.LocalView.{LocalView}
use Rattle.lockword.specs.Moment.{IsShown}

-- the number was the word at some moment, at which the rule of the lock word held
pub record WasTheWord (n : ℕ) : Type 0 where
  pub fields : Word
  pub view : LocalView
  pub shown : IsShown ℕ ℕ fields view
  pub same : n ≡ packed fields
