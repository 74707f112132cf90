-- A moment between two atomic steps of any number of threads, and what a load shows of it.
use Rattle.std.specs.Prelude.{◌≡◌}
use Rattle.lockword.specs.Words.{ℕ, slice_index, some, get_elem?, Word, IsWord}
use Rattle.atomic_table.specs.Table.{State}
use Rattle.lockword_core.specs.Word.{packed}
use Rattle.lockword.specs.declared.local_view.LocalView.{LocalView}
use Rattle.lockword.specs.declared.shared_rule.Half.{Half}
use Rattle.lockword.specs.declared.shared_rule.TheConstants.{STATE}
use Rattle.lockword.specs.SharedInvariant.{IsReached}

-- the words, the slots and the views of all seats at a moment
abbrev pub Moment : Type 0 → Type 0 → Type 0
Moment R W = State (Half R W) LocalView

-- the rule holds at this moment, and these are the seven fields of the state word
pub record IsRead {R W : Type 0} (s : Moment R W) (fields : Word) : Type 0 where
  pub rule : IsReached s
  pub is_word : IsWord fields
  pub same : packed fields ≡ slice_index s.words STATE

-- at some moment, at which the rule held, a seat had this view and the state word was this number
pub record IsFound (R W : Type 0) (n : ℕ) (v : LocalView) : Type 0 where
  pub moment : Moment R W
  pub rule : IsReached moment
  pub seat : ℕ
  pub own : get_elem? moment.views seat ≡ some v
  pub word : slice_index moment.words STATE ≡ n

-- at some moment, at which the rule held, a seat had this view and these were the seven fields
pub record IsShown (R W : Type 0) (fields : Word) (v : LocalView) : Type 0 where
  pub moment : Moment R W
  pub read : IsRead moment fields
  pub seat : ℕ
  pub own : get_elem? moment.views seat ≡ some v
