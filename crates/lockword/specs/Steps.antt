-- What the atomic steps tell the seat that makes them. No public clause cites this module.
use Rattle.std.specs.Prelude.{◌≡◌, ◌≢◌, ◌==◌, ◌<◌, ◌≤◌, ◌+◌, ◌-◌, ◌%◌, ◌^◌, [], ◌∷◌, ◌++◌, Ok}
use Rattle.std.specs.Prelude.{if◌then◌else◌}
use Rattle.lockword.specs.Words.{ℕ, List, Bool, true, false, Dir, Read, Write, Stake, Op, Answer}
use Rattle.lockword.specs.Words.{After, Event}
use Rattle.atomic_table.specs.Table.{Me, Step, rest}
use Rattle.lockword_core.specs.declared.stake.Stake.TheVariants as stake
use Rattle.lockword_core.specs.declared.stake.Op.TheVariants as op
use Rattle.lockword_core.specs.declared.stake.Answer.TheVariants as answer
use Rattle.lockword_core.specs.declared.word.TheConstants.{CLOSED, DRAIN, REFERENCE}
use Rattle.lockword_core.specs.declared.signals.TheConstants.{MAX_SIGNALS}
use Rattle.lockword_core.specs.declared.transition.Kind.{Kind}
use Rattle.lockword_core.specs.declared.transition.Kind.TheVariants as kind
use Rattle.lockword_core.specs.declared.transition.After.TheVariants as after
use Rattle.lockword_core.specs.Word.{closed_in, drain_in, lock_in, references_in, waiters_in}
use Rattle.lockword_core.specs.WordStep.{op_of, gained}
use Rattle.lockword_core.specs.FieldStep.{stepped_word}
use Rattle.lockword.specs.declared.local_view.LocalView.{LocalView}
use Rattle.lockword_core.specs.Transition.{stake_after_signal}
use Rattle.lockword.specs.declared.transitions.Advance.{Advance}
use Rattle.lockword.specs.declared.transitions.Advance.TheVariants as advance
use Rattle.lockword.specs.declared.transitions.SignalMove.{SignalMove}
use Rattle.lockword.specs.declared.transitions.SignalMove.TheVariants as move
use Rattle.lockword.specs.declared.signals.SignalTry.{SignalTry}
use Rattle.lockword.specs.declared.signals.SignalTry.TheVariants as tried
use Rattle.lockword.specs.Directions.{slot_of, Guarded, half_of}
use Rattle.lockword.specs.History.{IsMade, Hears}
use Rattle.lockword.specs.Moment.{IsFound}
use Rattle.lockword.specs.Home.{WasHome}
use Rattle.lockword.specs.Marks.{Place, SameMarks, Did, DidNothing, Made, LostStep, FoundClosed}
use Rattle.lockword.specs.Marks.{FoundDraining, FoundFull}
use Rattle.lockword.specs.declared.shared_rule.Half.{Half}
use Rattle.lockword.specs.declared.shared_rule.Half.TheVariants as half
use Rattle.lockword.specs.declared.shared_rule.TheConstants.{READ_HALF, WRITE_HALF, READ_SIGNALS}

-- the closed flag, perhaps the drain flag, and nothing else
abbrev pub IsJustClosed : ℕ → Type 0
IsJustClosed n = n % DRAIN ≡ CLOSED

-- what the state word shows to the holder of a stake
abbrev pub Shows : Stake → ℕ → Type 0
Shows stake.Ref n = 0 < references_in n
Shows stake.Read n = (0 < references_in n) × (lock_in Read n ≡ 1)
Shows stake.Write n = (0 < references_in n) × (lock_in Write n ≡ 1)
Shows (stake.Closing r w) n = 0 < references_in n
Shows stake.Last n = IsJustClosed n
Shows _ n = Unit {0}

-- the view once the state word was seen
abbrev pub seen_in : ℕ → LocalView → LocalView
seen_in n v =
    record v {
      saw = record { closed = closed_in n; draining = drain_in n; done = v.saw.done };
    }

-- the view once the seat heard what all seats did
abbrev pub hearing : List Event → LocalView → LocalView
hearing h v = record v { heard = h }

-- what a load of the state tells a seat with this view
pub record Told (R W : Type 0) (n : ℕ) (v : LocalView) : Type 0 where
  pub found : IsFound R W n (seen_in n v)
  pub is_word : n < 2 ^ 64
  pub saw_closed : v.saw.closed ≡ true → closed_in n ≡ true
  pub saw_draining : v.saw.draining ≡ true → drain_in n ≡ true
  pub saw_done : v.saw.done ≡ true → IsJustClosed n
  pub shows : Shows v.stake n
  -- nobody waits for a signal once the word is closed or draining
  pub none_waits : (d : Dir) → closed_in n ≡ true → waiters_in d n ≡ 0
  pub none_waits_drained : (d : Dir) → drain_in n ≡ true → waiters_in d n ≡ 0

-- whether a seat saw the closed flag once it made a step
abbrev pub saw_after : Kind → Bool → Bool
saw_after kind.Close c = true
saw_after _ c = c

-- whether a seat saw the drain flag once it made a step
abbrev pub saw_drain_after : Kind → Bool → Bool
saw_drain_after kind.Drain d = true
saw_drain_after _ d = d

-- the view once the seat made a step
abbrev pub moved_view : Kind → After → LocalView → LocalView
moved_view k a v =
    record {
      stake = (gained k a).1;
      took = false;
      saw = record {
        closed = saw_after k v.saw.closed;
        draining = saw_drain_after k v.saw.draining;
        done = v.saw.done;
      };
      did = v.did ++ op_of k ∷ [];
      heard = v.heard;
    }

-- the view once the done word was seen
abbrev pub asked_view : ℕ → LocalView → LocalView
asked_view n v =
    record v {
      saw = record { closed = v.saw.closed; draining = v.saw.draining; done = n == 1 };
    }

-- the view once the seat marked that it destroyed
abbrev pub destroyed_view : LocalView → LocalView
destroyed_view v =
    record {
      stake = stake.Free;
      took = false;
      saw = record { closed = v.saw.closed; draining = v.saw.draining; done = true };
      did = v.did ++ op.Destroy ∷ [];
      heard = v.heard;
    }

module _ {S : Type 0} where
  -- a load of the done word
  abbrev pub asked : Step S → Me S LocalView → ℕ → Me S LocalView → Type 0
  asked st me n me' =
      (n ≤ 1) × (me.0.saw.done ≡ true → n ≡ 1)
      × (me' ≡ (asked_view n me.0, me.1))

module _ {R W : Type 0} where
  -- a load of the state, at which the seat hears what all seats did
  abbrev pub looked : Step (Half R W) → Me (Half R W) LocalView → ℕ → Me (Half R W) LocalView
      → Type 0
  looked st me n me' =
      (h : List Event) × Told R W n (hearing h me.0) × (me' ≡ (seen_in n (hearing h me.0), me.1))
      × Hears me.0 h n (seen_in n (hearing h me.0))

  -- the slots that a seat holds once it made a step: a lock that is taken brings its half, one
  -- given back leaves it
  abbrev pub Carries : Kind → After → List (ℕ × Half R W) → List (ℕ × Half R W) → Type 0
  Carries (kind.Lock d) after.Held before now =
      (h : Guarded R W d) × (now ≡ (slot_of d, half_of d h) ∷ before)
  Carries (kind.Unlock d) _ before now = now ≡ rest before
  Carries _ _ before now = now ≡ before

  -- the half of a lock that is taken was at home just before, and that of one given back is just
  -- after
  abbrev pub MovesHalf : Kind → After → Me (Half R W) LocalView → Me (Half R W) LocalView → Type 0
  MovesHalf (kind.Lock d) after.Held me me' =
      (x : Half R W) × (me'.1 ≡ (slot_of d, x) ∷ me.1) × WasHome R W d x me.0.did
  MovesHalf (kind.Unlock d) _ me me' =
      (x : Half R W) → me.1 ≡ (slot_of d, x) ∷ [] → WasHome R W d x me'.0.did
  MovesHalf _ _ me me' = Unit {0}

  -- an exchange of the state word that finds what it looks for makes the step, and else nothing
  -- changes
  abbrev pub moved : Kind → Step (Half R W) → Me (Half R W) LocalView → ℕ → Me (Half R W) LocalView
      → Type 0
  moved k st me n me' =
      (n ≡ st.first → (a : After) → stepped_word st.first k ≡ Ok (st.second, a)
      → (h : List Event) × (me'.0 ≡ hearing h (moved_view k a me.0)) × Carries k a me.1 me'.1
      × IsMade (op_of k) (gained k a).0 me.0 me'.0 × MovesHalf k a me me')
      × (n ≢ st.first → me' ≡ me)

  -- a subtraction of a reference: the word that was found decides, and shows the flags
  abbrev pub subtracted : Step (Half R W) → Me (Half R W) LocalView → ℕ → Me (Half R W) LocalView
      → Type 0
  subtracted st me n me' =
      Told R W n me.0
      × ((a : After) × (h : List Event) × (stepped_word n kind.Decref ≡ Ok (n - REFERENCE, a))
      × (me'.0 ≡ hearing h (moved_view kind.Decref a (seen_in n me.0)))
      × Shows me'.0.stake (n - REFERENCE) × IsMade op.Decref (gained kind.Decref a).0 me.0 me'.0)
      × (me'.1 ≡ me.1)

  -- the last holder takes both halves
  abbrev pub emptied : Step (Half R W) → Me (Half R W) LocalView → ℕ → Me (Half R W) LocalView
      → Type 0
  emptied st me n me' =
      (me'.0 ≡ record me.0 { took = true })
      × ((r : R) × (w : W)
      × (me'.1 ≡ (WRITE_HALF, half.Write w) ∷ (READ_HALF, half.Read r) ∷ me.1))

  -- the last holder marks that it destroyed, and the slots go home
  abbrev pub marked : Step (Half R W) → Me (Half R W) LocalView → ℕ → Me (Half R W) LocalView
      → Type 0
  marked st me n me' =
      (h : List Event) × (me'.0 ≡ hearing h (destroyed_view me.0)) × (me'.1 ≡ rest (rest me.1))
      × IsMade op.Destroy answer.Done me.0 me'.0

-- ---- A try at a step on the state word

-- the steps that a closed word refuses
abbrev pub IsTaking : Kind → Type 0
IsTaking kind.Incref = Unit {0}
IsTaking kind.Close = Unit {0}
IsTaking kind.Drain = Unit {0}
IsTaking (kind.Lock d) = Unit {0}
IsTaking _ = ⊥

-- the steps that a draining word refuses
abbrev pub IsEntering : Kind → Type 0
IsEntering kind.Incref = Unit {0}
IsEntering kind.Drain = Unit {0}
IsEntering (kind.Lock d) = Unit {0}
IsEntering _ = ⊥

module _ {R W : Type 0} where
  -- the stake and the slots are as before
  abbrev pub Keeps : Place R W → Place R W → Type 0
  Keeps p q = (q.me.0.stake ≡ p.me.0.stake) × (q.me.0.took ≡ p.me.0.took) × (q.me.1 ≡ p.me.1)

  -- what a step of this kind came to
  abbrev pub Came : Kind → After → Place R W → Place R W → Type 0
  Came k a p q = (q.me.0.stake ≡ (gained k a).1) × Carries k a p.me.1 q.me.1 × Made k a p q

  -- what a try at a step of this kind did to its seat
  abbrev pub Advanced : Kind → Place R W → Place R W → Advance → Type 0
  Advanced k p q (advance.Done a) = Came k a p q × MovesHalf k a p.me q.me
  Advanced k p q advance.Closed = IsTaking k × Keeps p q × FoundClosed p q
  Advanced k p q advance.Draining = IsEntering k × Keeps p q × FoundDraining p q
  Advanced k p q (advance.TooMany w) = Keeps p q × FoundFull k p q w
  Advanced k p q advance.Lost = Keeps p q × LostStep k p q

-- the slots that a seat has to hold before it makes a step: a lock that is given back needs its
-- half
abbrev pub HasSlots : {R W : Type 0} → Kind → List (ℕ × Half R W) → Type 0
HasSlots {R} {W} (kind.Unlock d) slots =
    (h : Guarded R W d) × (slots ≡ (slot_of d, half_of d h) ∷ [])
HasSlots _ slots = Unit {0}

-- ---- Signals

-- the direction of a semaphore's word
abbrev pub way_of : ℕ → Dir
way_of i = if i == READ_SIGNALS then Read else Write

-- the operation that changes a semaphore by one signal
abbrev pub op_at : SignalMove → Dir → Op
op_at move.Gives d = op.Signal d
op_at move.Takes d = op.Wake d

-- the answer to it, once it is made
abbrev pub answer_at : SignalMove → Answer
answer_at move.Gives = answer.Signalled
answer_at move.Takes = answer.Woken

-- the signals before it and after: there was room for one more, or one to take
abbrev pub Changes : SignalMove → ℕ → ℕ → Type 0
Changes move.Gives n m = (n < MAX_SIGNALS) × (m ≡ n + 1)
Changes move.Takes n m = (0 < n) × (m ≡ n - 1)

-- the view once the seat gave or took a signal, by this operation
abbrev pub signalled_view : (Dir → Op) → Dir → LocalView → LocalView
signalled_view o d v =
    record {
      stake = stake_after_signal d v.stake;
      took = false;
      saw = v.saw;
      did = v.did ++ o d ∷ [];
      heard = v.heard;
    }

module _ {S : Type 0} where
  -- a load of a semaphore
  abbrev pub counted : Step S → Me S LocalView → ℕ → Me S LocalView → Type 0
  counted st me n me' = (n ≤ MAX_SIGNALS) × (me' ≡ me)

  -- an exchange of a semaphore, by which a signal is given or taken
  abbrev pub signalled : (Dir → Op) → Answer → Step S → Me S LocalView → ℕ → Me S LocalView → Type 0
  signalled o a st me n me' =
      (n ≡ st.first
      → (h : List Event) × (me' ≡ (hearing h (signalled_view o (way_of st.word) me.0), me.1))
      × IsMade (o (way_of st.word)) a me.0 me'.0)
      × (n ≢ st.first → me' ≡ me)

-- what a try at a semaphore did to its seat
abbrev pub Signalled : {R W : Type 0} → (Dir → Op) → Answer → Dir → Place R W → Place R W
    → SignalTry
    → Type 0
Signalled o a d p q tried.Done =
    (q.me.0.stake ≡ stake_after_signal d p.me.0.stake) × (q.me.1 ≡ p.me.1) × SameMarks p q
    × Did (o d) a p q
Signalled o a d p q tried.Refused = Keeps p q × SameMarks p q × DidNothing p q
Signalled o a d p q tried.Lost = Keeps p q × SameMarks p q × DidNothing p q
