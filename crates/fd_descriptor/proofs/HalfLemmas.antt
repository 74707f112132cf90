-- What is left of a lock that was given back, and where its half is.
use Rattle.std.proofs.Common.{◌≡◌, ◌∙◌, [], ◌∷◌, ◌++◌, ℕ, List, ap, sym, subst, inl, inr, append-nil, Err}
use Rattle.base_types.specs.declared.direction.Dir.{Dir}
use Rattle.lockword_core.specs.declared.stake.Op.{Op}
use Rattle.lockword_core.specs.declared.stake.Op.TheVariants as op
use Rattle.deadline_core.specs.declared.deadline.Dirs.{Dirs}
use Rattle.lockword.specs.declared.shared_rule.Half.{Half}
use Rattle.lockword.specs.declared.holders.Freed.{Freed}
use Rattle.lockword.specs.declared.holders.Freed.TheVariants as freed
use Rattle.lockword.specs.Home.{WasHome}
use Rattle.lockword.specs.Dropping.{Leaves}
use Rattle.lockword.specs.Marks.{Place, deeds, heard_by, marks_of as marks_at}
use Rattle.fdmutex.specs.Deeds.{LeavesWithoutEnd, closes, drains}
use Rattle.fdmutex.specs.Did.{GaveBack}
use Rattle.fdmutex.specs.declared.answers.Refusal.{Refusal}
use Rattle.fdmutex.specs.declared.answers.Refusal.TheVariants as refusal
use Rattle.fd_descriptor.specs.Deadlines.{HasSet}
use Rattle.fd_descriptor.specs.HandleCalls.{lock_fault}
use Rattle.fd_descriptor.specs.HalfUse.{FoundAtHome, LeftAtHome, UsesHome}
use Rattle.fd_descriptor.specs.Marks.{KeepsMarks, marks_left, closes_left, drains_left, deeds_left, duty_left}
use Rattle.fd_descriptor.specs.Marks.{heard_left}
use Rattle.fdmutex.specs.Heard.{LeavesHearing}
use Rattle.lockword.specs.History.{GoesOn}
use Rattle.lockword.proofs.HeardSteps.{goes_on_on}
use Rattle.lockword_core.specs.declared.stake.Event.{Event}
use Rattle.fd_descriptor.specs.declared.deadlines.Setting.{Setting}

module _ {R W : Type 0} where
  -- a half that was at home once its lock was given back was so before what the seat did then
  pub left_at_home : (d : Dir) (x : Half R W) (p : Place R W) (left : Freed R W) (now : List Op)
      → WasHome R W d x (deeds p ++ op.Unlock d ∷ []) → GaveBack d p left
      → now ≡ deeds_left left ++ duty_left left → LeftAtHome R W d x now
  left_at_home d x p (freed.Kept s) now home (inl did) same =
      record {
        earlier = deeds p;
        later = [];
        whole = same ∙ ap (λ (ops : List Op). ops ++ []) did.did;
        home = home;
      }
  left_at_home d x p (freed.Kept s) now home (inr two) same =
      record {
        earlier = deeds p;
        later = op.Signal d ∷ [];
        whole = same ∙ (append-nil s.place.me.0.did ∙ (two.signalled.did
            ∙ ap (λ (ops : List Op). ops ++ op.Signal d ∷ []) two.gave_back.did));
        home = home;
      }
  left_at_home d x p (freed.Last l) now home did same =
      record {
        earlier = deeds p;
        later = op.Destroy ∷ [];
        whole = same ∙ ap (λ (ops : List Op). ops ++ op.Destroy ∷ []) did.did;
        home = home;
      }

  -- what was seen stays seen
  pub left_marks : (p : Place R W) (left : Freed R W) → Leaves p left → KeepsMarks (marks_at p) (marks_left left)
  left_marks p (freed.Kept s) later = (later.1, (λ e. later.2 ∙ e), later.3)
  left_marks p (freed.Last l) closed = ((λ e. closed.0.1), (λ e. closed.0.2 ∙ e), closed.0.3)

  -- no close and no drain was made
  pub left_no_end : (p : Place R W) (left : Freed R W) → LeavesWithoutEnd p left
      → (closes_left left ≡ closes p) × (drains_left left ≡ drains p)
  left_no_end p (freed.Kept s) made = (made.0, made.2)
  left_no_end p (freed.Last l) made = (made.0, made.2)

module _ {R W G : Type 0} where
  -- a half that was found at home is the one that a call has of it
  pub found_so : (d : Dir) (stored : G → Half R W) (before did : List Op) (first half : G) → did ≡ before
      → first ≡ half → FoundAtHome R W d (stored half) before → FoundAtHome R W d (stored first) did
  found_so d stored before did first half same_did same found =
      subst (λ ops. FoundAtHome R W d (stored first) ops) (sym same_did)
      (subst (λ h. FoundAtHome R W d (stored h) before) (sym same) found)

  -- a use of a half that did this did what follows from it
  pub uses_so : (d : Dir) (stored : G → Half R W) (before after : List Op) (P Q : G → G → Type 0)
      → ((first last : G) → P first last → Q first last) → UsesHome R W d stored before after P
      → UsesHome R W d stored before after Q
  uses_so d stored before after P Q so used =
      record {
        first = used.first;
        last = used.last;
        found = used.found;
        did = so used.first used.last used.did;
        left = used.left;
      }

-- who has heard nothing since has heard what goes on
pub goes_on_same : (early late : List Event) → late ≡ early → GoesOn early late
goes_on_same early late same = record { more = []; whole = same ∙ sym (append-nil early) }

module _ {R W : Type 0} where
  -- what a seat hears goes on through what is left of what it gave back
  pub left_hearing : (p : Place R W) (left : Freed R W) (late : List Event) → LeavesHearing p left
      → GoesOn (heard_left left) late → GoesOn (heard_by p) late
  left_hearing p (freed.Kept s) late left on = goes_on_on _ _ _ left on
  left_hearing p (freed.Last l) late left on = goes_on_on _ _ _ left on

-- a refusal of the lock word is no refusal of the alarms
pub no_alarm : (armed refused : ℕ → Dirs → ℕ → Type 0) (disarmed : ℕ → Dirs → Type 0) (key : ℕ) (setting : Setting)
    (why : Refusal) → HasSet armed refused disarmed key setting (Err (lock_fault why))
no_alarm armed refused disarmed key setting refusal.Closed = tt
no_alarm armed refused disarmed key setting (refusal.TooMany w) = tt
no_alarm armed refused disarmed key setting refusal.Draining = tt
