-- What is left of a reference that is given back by one subtraction, and the word that decides it.
use Rattle.std.specs.Prelude.{◌≡◌, ◌<◌}
use Rattle.lockword.specs.Words.{true, false, After, Word, IsWord}
use Rattle.lockword_core.specs.declared.stake.Op.TheVariants as op
use Rattle.lockword_core.specs.declared.stake.Answer.TheVariants as answer
use Rattle.lockword_core.specs.declared.transition.After.TheVariants as after
use Rattle.lockword.specs.declared.holders.Freed.{Freed}
use Rattle.lockword.specs.declared.holders.Freed.TheVariants as freed
use Rattle.lockword.specs.Marks.{Place, HasNotTaken, Later, NowClosed, Did, saw_closed}
use Rattle.lockword.specs.Marks.{saw_draining, saw_done, word_of}
use Rattle.lockword.specs.Places.{seat_place, last_place}

-- the closed flag and one reference, perhaps the drain flag, and nothing else
abbrev pub IsLastReference : Word → Type 0
IsLastReference w =
    (w.closed ≡ true) × (w.rlock ≡ false) × (w.wlock ≡ false) × (w.refs ≡ 1) × (w.rwait ≡ 0)
    × (w.wwait ≡ 0)

-- what a subtraction found, and what the seat has seen with it
pub record Finds {R W : Type 0} (p q : Place R W) (w : Word) : Type 0 where
  pub is_word : IsWord w
  -- the reference that is given back is among those that were found
  pub counted : 0 < w.refs
  pub same_word : word_of q ≡ word_of p
  pub sees_flag : saw_closed q ≡ w.closed
  pub flag_stays : saw_closed p ≡ true → w.closed ≡ true
  pub sees_drain : saw_draining q ≡ w.drain
  pub drain_stays : saw_draining p ≡ true → w.drain ≡ true
  pub same_done : saw_done q ≡ saw_done p

-- the last one is who finds the closed flag and one reference alone, perhaps with the drain flag,
-- and nobody else
abbrev pub MakesLast : Word → After → Type 0
MakesLast w after.Last = IsLastReference w
MakesLast w _ = ¬ IsLastReference w

module _ {R W : Type 0} where
  -- the word that was found decides
  abbrev pub Decides : Place R W → Place R W → After → Type 0
  Decides p q a = (w : Word) × Finds p q w × MakesLast w a

  -- the same of what is left, once the seat has given its reference back
  abbrev pub IsDecided : Place R W → Freed R W → Type 0
  IsDecided p (freed.Kept s) =
      Decides p (seat_place s) after.Kept × Did op.Decref answer.Kept p (seat_place s)
  IsDecided p (freed.Last l) =
      Decides p (last_place l) after.Last × Did op.Decref answer.Last p (last_place l)

  -- a seat that forgot nothing that it saw is left, or the duty of one that saw the word closed and
  -- has yet to take the halves
  abbrev pub Leaves : Place R W → Freed R W → Type 0
  Leaves p (freed.Kept s) = Later p (seat_place s)
  Leaves p (freed.Last l) = NowClosed p (last_place l) × HasNotTaken (last_place l)

  -- the same for the closer, which has seen the word closed either way
  abbrev pub LeavesClosed : Place R W → Freed R W → Type 0
  LeavesClosed p (freed.Kept s) = NowClosed p (seat_place s)
  LeavesClosed p (freed.Last l) = NowClosed p (last_place l) × HasNotTaken (last_place l)
