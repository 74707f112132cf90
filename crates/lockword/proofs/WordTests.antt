-- What a step on the state word may come to, from the tests that it makes, and what a seat then knows.
use Rattle.std.proofs.Common.{◌≡◌, ◌≢◌, ◌<◌, ◌^◌, ◌∙◌, ◌∷◌, inl, inr, Result, Err, Some, None}
use Rattle.std.specs.Prelude.{◌==◌, ◌||◌, not, if◌then◌else◌}
use Rattle.lockword.proofs.Words.{ℕ, Bool, true, false, List, refl, sym, ap, subst, arith, Ok, Dir, Read, Write}
use Rattle.lockword.proofs.Words.{Stake, Op, Answer, Word, Kind, After, allows, stepped_word, op_of}
use Rattle.lockword.proofs.Words.{gained, same_pair, LocalView, Half, IsMade, IsFound, Shows, Told, seen_in, saw_after}
use Rattle.lockword.proofs.Words.{saw_drain_after, moved_view, Carries, slot_of}
use Rattle.lockword_core.specs.declared.stake.Stake.TheVariants as stake
use Rattle.lockword_core.specs.declared.word.TheConstants.{MAX_REFERENCES, MAX_WAITERS}
use Rattle.lockword_core.specs.declared.transition.Kind.TheVariants as kind
use Rattle.lockword_core.specs.declared.transition.After.TheVariants as after
use Rattle.lockword_core.specs.declared.transition.Refused.{Refused}
use Rattle.lockword_core.specs.declared.transition.Refused.TheVariants as why
use Rattle.lockword_core.specs.Word.{IsWord, packed, closed_in, drain_in, lock_in, references_in, waiters_in}
use Rattle.lockword_core.specs.FieldStep.{lock_of, waiters_of, guards, first_refusal, field_step, packed_result}
use Rattle.lockword_core.specs.FieldStep.{is_full as is_full_test}
use Rattle.lockword_core.specs.FieldStep.{fields_in}
use Rattle.lockword_core.proofs.FieldSteps.{same_numbers, not_false, holds, IsMade as IsTableMade, Stepped, stepped}
use Rattle.lockword_core.proofs.FieldSteps.{refused_holds, full_is_open}
use Rattle.lockword_core.proofs.WordFields.{fields_fit, packs_back, unpacks}
use Rattle.lockword.specs.declared.local_view.Marks.{Marks}
use Rattle.lockword.specs.Moment.{IsShown}
use Rattle.lockword.specs.declared.transitions.Advance.TheVariants as advance
use Rattle.lockword.specs.Marks.{Place, SameMarks, SameButDraining, Later, NowClosed, IsOpen, IsUndrained, HasNotTaken}
use Rattle.lockword.specs.Marks.{IsFullWay, IsFull, Marked, LostMarks, FullMarks, OnlyLooked, Heard, FoundClosed}
use Rattle.lockword.specs.Marks.{FoundDraining}
use Rattle.lockword.specs.History.{GoesOn, Hears}
use Rattle.lockword.proofs.HeardSteps.{goes_on_on}
use Rattle.lockword.proofs.Words.{Event}
use Rattle.lockword.specs.Steps.{hearing, Keeps, Came, IsEntering, Advanced, MovesHalf}
use Rattle.lockword.specs.Home.{WasHome}
use Rattle.atomic_table.specs.Table.{Me}

-- ---- The tests

-- what a step on the word answers is what the table says
pub is_stepped : (n : ℕ) (k : Kind) (r : Result (ℕ × After) Refused) → n < 2 ^ 64
    → ((f : Word) → IsWord f → packed f ≡ n → r ≡ packed_result (field_step f k)) → r ≡ stepped_word n k
is_stepped n k r small told = told (fields_in n) (fields_fit n) (packs_back n small)

-- what the word shows where a step comes to this
abbrev pub Shown : ℕ → Kind → After → Type 0
Shown n k a = (g : Word) × IsTableMade (fields_in n) k a g

pub possible : (n m : ℕ) (k : Kind) (a : After) → stepped_word n k ≡ Ok (m, a) → Shown n k a
possible n m k a = by (field_step (fields_in n) k) (stepped (fields_in n) k)
  where
    by : (r : Result (Word × After) Refused) → Stepped (fields_in n) k r → packed_result r ≡ Ok (m, a) → Shown n k a
    by (Ok (g, b)) made e =
        (g, subst (λ (x : ℕ × After). IsTableMade (fields_in n) k x.1 g) (same_pair (packed g, b) (m, a) e) made)
    by (Err x) first e = absurd (cc)

-- which test refuses
pub refusing : (n : ℕ) (k : Kind) (e : Refused) → stepped_word n k ≡ Err e
    → first_refusal (guards (fields_in n) k) ≡ Some e
refusing n k why = by (field_step (fields_in n) k) (stepped (fields_in n) k)
  where
    by : (r : Result (Word × After) Refused) → Stepped (fields_in n) k r → packed_result r ≡ Err why
        → first_refusal (guards (fields_in n) k) ≡ Some why
    by (Ok (g, b)) made e = absurd (cc)
    by (Err x) first e = let same : x ≡ why = cc in first ∙ ap (λ (y : Refused). Some y) same

waiters_show : (d : Dir) (n : ℕ) → waiters_of d (fields_in n) ≡ waiters_in d n
waiters_show Read n = refl
waiters_show Write n = refl

lock_shows : (d : Dir) (n : ℕ) → lock_of d (fields_in n) ≡ false → lock_in d n ≡ 0
lock_shows Read n e = same_numbers _ _ (not_false _ e)
lock_shows Write n e = same_numbers _ _ (not_false _ e)

-- the word is full where the test of a limit holds
is_full : (w : Word) (k : Kind) → holds why.TooMany (guards w k) ≡ true → IsFull k w
is_full w kind.Incref full = same_numbers _ _ full
is_full w kind.Close full = same_numbers _ _ full
is_full w (kind.Lock d) full = by (lock_of d w) refl full
  where
    by : (l : Bool) → lock_of d w ≡ l
        → (if l then (waiters_of d w == MAX_WAITERS) else (w.refs == MAX_REFERENCES)) ≡ true → IsFullWay d w
    by true e h = inr (e, same_numbers _ _ h)
    by false e h = inl (e, same_numbers _ _ h)
is_full w kind.Decref none = absurd (cc)
is_full w kind.Drain none = absurd (cc)
is_full w (kind.Unlock d) none = absurd (cc)

-- a word that refuses at a limit is not draining, but for a close
abbrev pub MayDrain : Kind → Word → Type 0
MayDrain kind.Close w = Unit {0}
MayDrain _ w = w.drain ≡ false

not_draining : (b c t : Bool)
    → (if b then Some why.Closed else if c then Some why.Draining else if t then Some why.TooMany else None)
    ≡ Some why.TooMany → c ≡ false
not_draining true c t e = absurd (cc)
not_draining false true t e = absurd (cc)
not_draining false false t e = refl

full_undrained : (w : Word) (k : Kind) → first_refusal (guards w k) ≡ Some why.TooMany → MayDrain k w
full_undrained w kind.Incref e = not_draining w.closed w.drain (w.refs == MAX_REFERENCES) e
full_undrained w (kind.Lock d) e = not_draining w.closed w.drain (is_full_test d w) e
full_undrained w kind.Close e = tt
full_undrained w kind.Drain e = not_draining w.closed w.drain false e
full_undrained w kind.Decref e = absurd (no_limit (w.refs == 0) false e)
  where
    no_limit : (b c : Bool) → (if b then Some why.Misuse else if c then Some why.Misuse else None) ≡ Some why.TooMany
        → ⊥
    no_limit true c e = absurd (cc)
    no_limit false true e = absurd (cc)
    no_limit false false e = absurd (cc)
full_undrained w (kind.Unlock d) e = absurd (no_limit (not (lock_of d w)) (w.refs == 0) e)
  where
    no_limit : (b c : Bool) → (if b then Some why.Misuse else if c then Some why.Misuse else None) ≡ Some why.TooMany
        → ⊥
    no_limit true c e = absurd (cc)
    no_limit false true e = absurd (cc)
    no_limit false false e = absurd (cc)

-- a word that refuses as draining is not closed
draining_first : (b c t : Bool)
    → (if b then Some why.Closed else if c then Some why.Draining else if t then Some why.TooMany else None)
    ≡ Some why.Draining → (b ≡ false) × (c ≡ true)
draining_first true c t e = absurd (cc)
draining_first false true t e = (refl, refl)
draining_first false false true e = absurd (cc)
draining_first false false false e = absurd (cc)

-- no other step is refused as draining, or at a limit
none_drains : (f : Word) (k : Kind) → holds why.Draining (guards f k) ≡ true → IsEntering k
none_drains f kind.Incref e = tt
none_drains f (kind.Lock d) e = tt
none_drains f kind.Drain e = tt
none_drains f kind.Decref e = absurd (cc)
none_drains f (kind.Unlock d) e = absurd (cc)
none_drains f kind.Close e = absurd (cc)

-- ---- Marks

was_open : (b t : Bool) → (b ≡ true → t ≡ true) → t ≡ false → b ≡ false
was_open true t saw e = sym (saw refl) ∙ e
was_open false t saw e = refl

open_by : (t : Bool) (x : ℕ) → (t ≡ true → x ≡ 0) → x ≢ 0 → t ≡ false
open_by true x none ne = absurd (ne (none refl))
open_by false x none ne = refl

all_marks : (m n : Marks) → m.closed ≡ n.closed → m.draining ≡ n.draining → m.done ≡ n.done → m ≡ n
all_marks m n closed draining done i = record { closed = closed i; draining = draining i; done = done i }

-- the fields of the word that was found
pub shown : (R W : Type 0) (n : ℕ) (w : Word) (v : LocalView) → IsFound R W n v → IsWord w → packed w ≡ n
    → IsShown R W w v
shown R W n w v found fits same =
    record {
      moment = found.moment;
      read = record { rule = found.rule; is_word = fits; same = same ∙ sym found.word };
      seat = found.seat;
      own = found.own;
    }

-- what a seat made after a load, it made with the view that it had before
pub made_before : {R W : Type 0} (n : ℕ) (v w : LocalView) (o : Op) (a : Answer) → Told R W n v
    → IsMade o a (seen_in n v) w
    → IsMade o a v w
made_before n v w o a told made =
    record {
      history = made.history;
      none_refused = made.none_refused;
      seat = made.seat;
      own = record {
        did = made.own.did;
        stake = made.own.stake;
        saw_closed = λ e. made.own.saw_closed (told.saw_closed e);
        saw_draining = λ e. made.own.saw_draining (told.saw_draining e);
        saw_done = made.own.saw_done;
      };
      answered = made.answered;
      stake = made.stake;
      did = made.did;
      goes_on = made.goes_on;
      heard = made.heard;
    }

-- what a seat that has heard more made, it made since it had heard less
made_since : (v w : LocalView) (h : List Event) (o : Op) (a : Answer) → GoesOn v.heard h
    → IsMade o a (hearing h v) w → IsMade o a v w
made_since v w h o a so_far made =
    record {
      history = made.history;
      none_refused = made.none_refused;
      seat = made.seat;
      own = record {
        did = made.own.did;
        stake = made.own.stake;
        saw_closed = made.own.saw_closed;
        saw_draining = made.own.saw_draining;
        saw_done = made.own.saw_done;
      };
      answered = made.answered;
      stake = made.stake;
      did = made.did;
      goes_on = goes_on_on v.heard h made.history so_far made.goes_on;
      heard = made.heard;
    }

-- neither flag is set
abbrev pub IsOpenWord : ℕ → Type 0
IsOpenWord n = (closed_in n ≡ false) × (drain_in n ≡ false)

module _ {R W : Type 0} where
  -- what the marks of a seat are after a load of this word, beside those that the load tells
  pub record Saw (n : ℕ) (p q : Place R W) : Type 0 where
    heard : List Event
    told : Told R W n (hearing heard p.me.0)
    flag : q.me.0.saw.closed ≡ closed_in n
    drain : q.me.0.saw.draining ≡ drain_in n
    done : q.me.0.saw.done ≡ p.me.0.saw.done
    same : q.table_id ≡ p.table_id

  -- the marks of a seat that looked and saw no flag
  marks_open : (n : ℕ) (p q : Place R W) → Saw n p q → IsOpenWord n → SameMarks p q × IsOpen p × IsUndrained p
  marks_open n p q saw (unshut, undrained) =
      let unseen = was_open p.me.0.saw.closed (closed_in n) saw.told.saw_closed unshut in
      let drain_unseen = was_open p.me.0.saw.draining (drain_in n) saw.told.saw_draining undrained in (
        (saw.same, all_marks _ _ (saw.flag ∙ unshut ∙ sym unseen) (saw.drain ∙ undrained ∙ sym drain_unseen) saw.done),
        unseen,
        drain_unseen,
      )

  -- the marks of a seat that looked and saw no closed flag
  marks_unshut : (n : ℕ) (p q : Place R W) → Saw n p q → closed_in n ≡ false → SameButDraining p q × IsOpen p
  marks_unshut n p q saw unshut =
      let unseen = was_open p.me.0.saw.closed (closed_in n) saw.told.saw_closed unshut in
      ((saw.same, saw.flag ∙ unshut ∙ sym unseen, saw.done, λ e. saw.drain ∙ saw.told.saw_draining e), unseen)

  marks_later : (n : ℕ) (p q : Place R W) → Saw n p q → Later p q
  marks_later n p q saw =
      (saw.same, (λ e. saw.flag ∙ saw.told.saw_closed e), saw.done, λ e. saw.drain ∙ saw.told.saw_draining e)

  marks_closed : (n : ℕ) (p q : Place R W) → Saw n p q → closed_in n ≡ true → NowClosed p q
  marks_closed n p q saw shut =
      (saw.same, saw.flag ∙ shut, saw.done, λ e. saw.drain ∙ saw.told.saw_draining e)

  pub came : (k : Kind) (a : After) (n m : ℕ) (p q : Place R W) (g h : List Event)
      → Told R W n (hearing g p.me.0) → stepped_word n k ≡ Ok (m, a)
      → q.me.0 ≡ hearing h (moved_view k a (seen_in n p.me.0)) → Carries k a p.me.1 q.me.1 → q.table_id ≡ p.table_id
      → IsMade (op_of k) (gained k a).0 p.me.0 q.me.0 → Came k a p q
  came k a n m p q g h told is view slots same made = (
    ap (λ (v : LocalView). v.stake) view,
    slots,
    (
      by k a (possible n m k a is) (ap (λ (v : LocalView). v.saw.closed) view)
          (ap (λ (v : LocalView). v.saw.draining) view),
      made,
    ),
  )
    where
      done : q.me.0.saw.done ≡ p.me.0.saw.done
      done = ap (λ (v : LocalView). v.saw.done) view

      not_taken : HasNotTaken q
      not_taken = ap (λ (v : LocalView). v.took) view

      saw : q.me.0.saw.closed ≡ closed_in n → q.me.0.saw.draining ≡ drain_in n → Saw n p q
      saw flag drain = record { heard = g; told = told; flag = flag; drain = drain; done = done; same = same }

      by : (k : Kind) (a : After) → Shown n k a → q.me.0.saw.closed ≡ saw_after k (closed_in n)
          → q.me.0.saw.draining ≡ saw_drain_after k (drain_in n) → Marked k a p q
      by kind.Incref after.Held (g, made) flag drain =
          marks_open n p q (saw flag drain) (made.passes why.Closed, made.passes why.Draining)
      by kind.Decref after.Kept (g, made) flag drain = marks_later n p q (saw flag drain)
      by kind.Decref after.Last (g, made) flag drain =
          (marks_closed n p q (saw flag drain) made.shows.1.0, not_taken)
      by kind.Close (after.Closing r w) (g, made) flag drain = (
        (same, flag, done, λ e. drain ∙ told.saw_draining e),
        was_open p.me.0.saw.closed (closed_in n) told.saw_closed (made.passes why.Closed),
      )
      by kind.Drain (after.Drained r w) (g, made) flag drain =
          let unseen = was_open p.me.0.saw.closed (closed_in n) told.saw_closed (made.passes why.Closed) in (
            (same, flag ∙ made.passes why.Closed ∙ sym unseen, done, drain),
            unseen,
            was_open p.me.0.saw.draining (drain_in n) told.saw_draining (made.passes why.Draining),
          )
      by (kind.Lock d) after.Held (g, made) flag drain =
          marks_open n p q (saw flag drain) (made.passes why.Closed, made.passes why.Draining)
      by (kind.Lock d) after.Queued (g, made) flag drain =
          marks_open n p q (saw flag drain) (made.passes why.Closed, made.passes why.Draining)
      by (kind.Unlock d) after.Owes (g, made) flag drain =
          let waits : waiters_in d n ≢ 0 = λ e. made.shows.1 (waiters_show d n ∙ e) in
          marks_open n p q (saw flag drain) (
            open_by (closed_in n) (waiters_in d n) (told.none_waits d) waits,
            open_by (drain_in n) (waiters_in d n) (told.none_waits_drained d) waits,
          )
      by (kind.Unlock d) after.Kept (g, made) flag drain = marks_later n p q (saw flag drain)
      by (kind.Unlock d) after.Last (g, made) flag drain =
          (marks_closed n p q (saw flag drain) made.shows.1.0, not_taken)
      by kind.Decref _ (g, made) flag drain = absurd made.shows.1
      by (kind.Unlock d) _ (g, made) flag drain = absurd made.shows.1
      by _ _ (g, made) flag drain = absurd made.shows

  -- the seat after a load
  kept : (n : ℕ) (p q : Place R W) (h : List Event) → q.me ≡ (seen_in n (hearing h p.me.0), p.me.1) → Keeps p q
  kept n p q h e = (ap (λ m. m.0.stake) e, ap (λ m. m.0.took) e, ap (λ m. m.1) e)

  only_looked : (n : ℕ) (p q : Place R W) (h : List Event) → q.me ≡ (seen_in n (hearing h p.me.0), p.me.1)
      → GoesOn p.me.0.heard h → OnlyLooked p q
  only_looked n p q h e so_far =
      (ap (λ m. m.0.did) e, subst (λ (xs : List Event). GoesOn p.me.0.heard xs) (sym (ap (λ m. m.0.heard) e)) so_far)

  saw_by : (n : ℕ) (p q : Place R W) (h : List Event) → Told R W n (hearing h p.me.0)
      → q.me ≡ (seen_in n (hearing h p.me.0), p.me.1) → q.table_id ≡ p.table_id → Saw n p q
  saw_by n p q h told me same =
      record {
        heard = h;
        told = told;
        flag = ap (λ m. m.0.saw.closed) me;
        drain = ap (λ m. m.0.saw.draining) me;
        done = ap (λ m. m.0.saw.done) me;
        same = same;
      }

  pub lost : (k : Kind) (a : After) (n m : ℕ) (p q : Place R W) (h : List Event) → Told R W n (hearing h p.me.0)
      → stepped_word n k ≡ Ok (m, a) → q.me ≡ (seen_in n (hearing h p.me.0), p.me.1) → GoesOn p.me.0.heard h
      → q.table_id ≡ p.table_id → Advanced k p q advance.Lost
  lost k a n m p q h told is me so_far same =
      (kept n p q h me, (by k a (possible n m k a is), only_looked n p q h me so_far))
    where
      saw : Saw n p q
      saw = saw_by n p q h told me same

      by : (k : Kind) (a : After) → Shown n k a → LostMarks k p q
      by kind.Incref a (g, made) = marks_open n p q saw (made.passes why.Closed, made.passes why.Draining)
      by kind.Close a (g, made) = marks_unshut n p q saw (made.passes why.Closed)
      by kind.Drain a (g, made) = marks_open n p q saw (made.passes why.Closed, made.passes why.Draining)
      by (kind.Lock d) a (g, made) = marks_open n p q saw (made.passes why.Closed, made.passes why.Draining)
      by kind.Decref a made = marks_later n p q saw
      by (kind.Unlock d) a made = marks_later n p q saw

  pub refused_closed : (k : Kind) (n : ℕ) (p q : Place R W) (h : List Event) → Told R W n (hearing h p.me.0)
      → stepped_word n k ≡ Err why.Closed → q.me ≡ (seen_in n (hearing h p.me.0), p.me.1) → GoesOn p.me.0.heard h
      → q.table_id ≡ p.table_id → Advanced k p q advance.Closed
  refused_closed k n p q h told is me so_far same =
      by k (refused_holds (fields_in n) k why.Closed (refusing n k why.Closed is))
    where
      found : closed_in n ≡ true → Keeps p q × FoundClosed p q
      found shut =
          (kept n p q h me, (marks_closed n p q (saw_by n p q h told me same) shut, only_looked n p q h me so_far))

      by : (k : Kind) → holds why.Closed (guards (fields_in n) k) ≡ true → Advanced k p q advance.Closed
      by kind.Incref shut = (tt, (found shut).0, (found shut).1)
      by kind.Close shut = (tt, (found shut).0, (found shut).1)
      by kind.Drain shut = (tt, (found shut).0, (found shut).1)
      by (kind.Lock d) shut = (tt, (found shut).0, (found shut).1)
      by kind.Decref none = absurd (cc)
      by (kind.Unlock d) none = absurd (cc)

  pub refused_draining : (k : Kind) (n : ℕ) (p q : Place R W) (h : List Event) → Told R W n (hearing h p.me.0)
      → stepped_word n k ≡ Err why.Draining → q.me ≡ (seen_in n (hearing h p.me.0), p.me.1) → GoesOn p.me.0.heard h
      → q.table_id ≡ p.table_id → Advanced k p q advance.Draining
  refused_draining k n p q h told is me so_far same = by k (refusing n k why.Draining is)
    where
      f : Word
      f = fields_in n

      found : (closed_in n ≡ false) × (drain_in n ≡ true) → Keeps p q × FoundDraining p q
      found (unshut, drained) =
          let unseen = was_open p.me.0.saw.closed (closed_in n) told.saw_closed unshut in (
            kept n p q h me,
            (
              (
                same,
                ap (λ m. m.0.saw.closed) me ∙ unshut ∙ sym unseen,
                ap (λ m. m.0.saw.done) me,
                ap (λ m. m.0.saw.draining) me ∙ drained,
              ),
              unseen,
              only_looked n p q h me so_far,
            ),
          )

      by : (k : Kind) → first_refusal (guards f k) ≡ Some why.Draining → Advanced k p q advance.Draining
      by kind.Incref e =
          let t = found (draining_first f.closed f.drain (f.refs == MAX_REFERENCES) e) in (tt, t.0, t.1)
      by kind.Drain e = let t = found (draining_first f.closed f.drain false e) in (tt, t.0, t.1)
      by (kind.Lock d) e = let t = found (draining_first f.closed f.drain (is_full_test d f) e) in (tt, t.0, t.1)
      by kind.Decref e = absurd (none_drains f kind.Decref (refused_holds f kind.Decref why.Draining e))
      by (kind.Unlock d) e = absurd (none_drains f (kind.Unlock d) (refused_holds f (kind.Unlock d) why.Draining e))
      by kind.Close e = absurd (none_drains f kind.Close (refused_holds f kind.Close why.Draining e))

  -- what a load lets a seat hear, once the word that was found is told by its fields
  pub heard_in : (n : ℕ) (w : Word) (p q : Place R W) (h : List Event) → packed w ≡ n
      → q.me ≡ (seen_in n (hearing h p.me.0), p.me.1) → Hears p.me.0 h n (seen_in n (hearing h p.me.0)) → Heard w p q
  heard_in n w p q h same_word me hears =
      subst (λ (v : LocalView). Hears p.me.0 v.heard (packed w) v) (sym (ap (λ m. m.0) me))
      (subst (λ (k : ℕ). Hears p.me.0 h k (seen_in n (hearing h p.me.0))) (sym same_word) hears)

  pub refused_full : (k : Kind) (n : ℕ) (w : Word) (p q : Place R W) (h : List Event) → Told R W n (hearing h p.me.0)
      → stepped_word n k ≡ Err why.TooMany → IsWord w → packed w ≡ n → q.me ≡ (seen_in n (hearing h p.me.0), p.me.1)
      → Hears p.me.0 h n (seen_in n (hearing h p.me.0)) → q.table_id ≡ p.table_id → Advanced k p q (advance.TooMany w)
  refused_full k n w p q h told is fits same_word me hears same = (
    kept n p q h me,
    (
      by k (full_undrained w k first) (is_full w k (refused_holds w k why.TooMany first)),
      shown R W n w q.me.0 found fits same_word,
      heard_in n w p q h same_word me hears,
      ap (λ m. m.0.did) me,
    ),
  )
    where
      first : first_refusal (guards w k) ≡ Some why.TooMany
      first =
          subst (λ (f : Word). first_refusal (guards f k) ≡ Some why.TooMany) (unpacks w n fits same_word)
          (refusing n k why.TooMany is)

      found : IsFound R W n q.me.0
      found = subst (λ (v : LocalView). IsFound R W n v) (sym (ap (λ m. m.0) me)) told.found

      fields : fields_in n ≡ w
      fields = unpacks w n fits same_word

      saw : Saw n p q
      saw = saw_by n p q h told me same

      unshut : w.closed ≡ false
      unshut = full_is_open w k first

      open_word : closed_in n ≡ false
      open_word = ap (λ (f : Word). f.closed) fields ∙ unshut

      entering : w.drain ≡ false → SameMarks p q × IsOpen p × IsUndrained p
      entering undrained = marks_open n p q saw (open_word, ap (λ (f : Word). f.drain) fields ∙ undrained)

      by : (k : Kind) → MayDrain k w → IsFull k w → FullMarks k p q w
      by kind.Close _ full =
          let marks = marks_unshut n p q saw open_word in
          (marks.0, marks.1, ap (λ m. m.0.saw.draining) me ∙ ap (λ (f : Word). f.drain) fields, unshut, full)
      by kind.Incref undrained full =
          let marks = entering undrained in (marks.0, marks.1, marks.2, undrained, unshut, full)
      by (kind.Lock d) undrained full =
          let marks = entering undrained in (marks.0, marks.1, marks.2, undrained, unshut, full)
      by kind.Decref undrained full = absurd full
      by (kind.Unlock d) undrained full = absurd full
      by kind.Drain undrained full = absurd full

  -- the half that a step moved is that of who only looked before
  half_since : (k : Kind) (a : After) (me now to : Me (Half R W) LocalView) → now.0.did ≡ me.0.did → now.1 ≡ me.1
      → MovesHalf k a now to → MovesHalf k a me to
  half_since (kind.Lock d) after.Held me now to did slots moved = (
    moved.0,
    moved.1 ∙ ap (λ (l : List (ℕ × Half R W)). (slot_of d, moved.0) ∷ l) slots,
    subst (λ (ops : List Op). WasHome R W d moved.0 ops) did moved.2,
  )
  half_since (kind.Unlock d) a me now to did slots moved = λ x e. moved x (slots ∙ e)
  half_since (kind.Lock d) after.Queued me now to did slots moved = tt
  half_since _ _ me now to did slots moved = tt

  -- the same, where the step was told of an equal kind, and was made after a load
  pub came_after : (k j : Kind) (a : After) (n m : ℕ) (p x q : Place R W) (h : List Event) → k ≡ j
      → Told R W n (hearing h p.me.0) → stepped_word n k ≡ Ok (m, a)
      → x.me ≡ (seen_in n (hearing h p.me.0), p.me.1) → GoesOn p.me.0.heard h
      → ((b : After) → stepped_word n j ≡ Ok (m, b) → (g : List Event)
      × (q.me.0 ≡ hearing g (moved_view j b x.me.0)) × Carries j b x.me.1 q.me.1
      × IsMade (op_of j) (gained j b).0 x.me.0 q.me.0 × MovesHalf j b x.me q.me)
      → q.table_id ≡ p.table_id → Came k a p q × MovesHalf k a p.me q.me
  came_after k j a n m p x q h same_kind told is looked so_far did same =
      let did_k : ((b : After) → stepped_word n k ≡ Ok (m, b) → (g : List Event)
      × (q.me.0 ≡ hearing g (moved_view k b x.me.0)) × Carries k b x.me.1 q.me.1
      × IsMade (op_of k) (gained k b).0 x.me.0 q.me.0 × MovesHalf k b x.me q.me) =
      subst (λ (z : Kind). (b : After) → stepped_word n z ≡ Ok (m, b) → (g : List Event)
      × (q.me.0 ≡ hearing g (moved_view z b x.me.0)) × Carries z b x.me.1 q.me.1
      × IsMade (op_of z) (gained z b).0 x.me.0 q.me.0 × MovesHalf z b x.me q.me) (sym same_kind) did in
      let one = did_k a is in (
        came k a n m p q h one.0 told is (one.1 ∙ ap (λ y. hearing one.0 (moved_view k a y.0)) looked)
            (subst (λ (l : List (ℕ × Half R W)). Carries k a l q.me.1) (ap (λ y. y.1) looked) one.2) same
            (made_since p.me.0 q.me.0 h (op_of k) (gained k a).0 so_far
            (made_before n (hearing h p.me.0) q.me.0 (op_of k) (gained k a).0 told
            (subst (λ (y : LocalView). IsMade (op_of k) (gained k a).0 y q.me.0) (ap (λ y. y.0) looked) one.3))),
        half_since k a p.me x.me q.me (ap (λ y. y.0.did) looked) (ap (λ y. y.1) looked) one.4,
      )

-- no step that a stake allows is a misuse
pub no_misuse : (k : Kind) (own : Stake) (n : ℕ) → Shows own n → allows own (op_of k) ≡ true
    → stepped_word n k ≡ Err why.Misuse → ⊥
no_misuse k own n shows may is =
    by k own shows may (refused_holds (fields_in n) k why.Misuse (refusing n k why.Misuse is))
  where
    none_left : 0 < references_in n → (references_in n == 0) ≡ true → ⊥
    none_left some e = let none = same_numbers _ _ e in omega arith

    held : (d : Dir) (l z : Bool) → lock_of d (fields_in n) ≡ l → (references_in n == 0) ≡ z → 0 < references_in n
        → lock_in d n ≡ 1 → (z || not l) ≡ true → ⊥
    held d l true e h some one wrong = none_left some h
    held d true false e h some one wrong = absurd (cc)
    held d false false e h some one wrong = let free = lock_shows d n e in omega arith

    by : (k : Kind) (own : Stake) → Shows own n → allows own (op_of k) ≡ true
        → holds why.Misuse (guards (fields_in n) k) ≡ true → ⊥
    by kind.Decref stake.Ref some may wrong = none_left some wrong
    by kind.Decref (stake.Closing r w) some may wrong = none_left some wrong
    by (kind.Unlock Read) stake.Read shows may wrong = held Read _ _ refl refl shows.0 shows.1 wrong
    by (kind.Unlock Write) stake.Write shows may wrong = held Write _ _ refl refl shows.0 shows.1 wrong
    by (kind.Unlock Read) stake.Write shows may wrong = absurd (cc)
    by (kind.Unlock Write) stake.Read shows may wrong = absurd (cc)
    by kind.Decref _ shows may wrong = absurd (cc)
    by (kind.Unlock d) _ shows may wrong = absurd (cc)
    by kind.Incref own shows may wrong = absurd (cc)
    by kind.Close own shows may wrong = absurd (cc)
    by kind.Drain own shows may wrong = absurd (cc)
    by (kind.Lock d) own shows may wrong = absurd (cc)
