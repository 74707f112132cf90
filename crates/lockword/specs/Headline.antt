-- The headline: what holds between any two atomic steps of any number of threads on a lock word.
use Rattle.std.specs.Prelude.{◌≡◌, ◌==◌, ◌≤◌, ◌<◌, ◌+◌, ◌/◌, ◌%◌, ◌^◌, [], ◌∷◌, ◌++◌, if◌then◌else◌}
use Rattle.lockword.specs.Words.{ℕ, Bool, true, false, List, All, Contains, map, sum_by, count_by}
use Rattle.lockword.specs.Words.{slice_index, get_or, get_elem?, Dir, Read, Write, Stake, Op, Answer}
use Rattle.lockword_core.specs.declared.stake.Stake.TheVariants as stake
use Rattle.lockword_core.specs.declared.stake.Op.TheVariants as op
use Rattle.lockword_core.specs.declared.stake.Answer.TheVariants as answer
use Rattle.lockword.specs.declared.shared_rule.TheConstants.{STATE, DONE}
use Rattle.lockword.specs.Directions.{semaphore, slot_of, half_home}
use Rattle.lockword.specs.Moment.{Moment}

-- what a stake counts as: a lock, a reference, a place in a queue, signals owed, a duty to destroy
abbrev pub lock : Dir → Stake → ℕ
lock Read stake.Read = 1
lock Write stake.Write = 1
lock _ _ = 0

abbrev pub reference : Stake → ℕ
reference stake.Ref = 1
reference (stake.Closing r w) = 1
reference own = lock Read own + lock Write own

abbrev pub queued : Dir → Stake → ℕ
queued Read (stake.Waits Read) = 1
queued Write (stake.Waits Write) = 1
queued _ _ = 0

abbrev pub owed : Dir → Stake → ℕ
owed Read (stake.Owes Read) = 1
owed Write (stake.Owes Write) = 1
owed Read (stake.Closing r w) = r
owed Write (stake.Closing r w) = w
owed Read (stake.Drains r w) = r
owed Write (stake.Drains r w) = w
owed _ _ = 0

abbrev pub duty : Stake → ℕ
duty stake.Last = 1
duty _ = 0

-- an operation that the seat of this number made, and its answer
pub record Act : Type 0 where
  pub seat : ℕ
  pub op : Op
  pub answer : Answer

-- what an operation that isn't refused is answered
abbrev pub answers_to : Op → List Answer
answers_to op.Incref = answer.Held ∷ []
answers_to op.Decref = answer.Kept ∷ answer.Last ∷ []
answers_to (op.Lock d) = answer.Held ∷ answer.Queued ∷ []
answers_to (op.Unlock d) = answer.Kept ∷ answer.Owes ∷ answer.Last ∷ []
answers_to (op.Signal d) = answer.Signalled ∷ []
answers_to (op.Wake d) = answer.Woken ∷ []
answers_to op.Close = answer.Closing ∷ []
answers_to op.Drain = answer.Drained ∷ []
answers_to op.Destroy = answer.Done ∷ []

-- what a seat did, in its order
abbrev pub done_by : ℕ → List Act → List Op
done_by seat [] = []
done_by seat (d ∷ ds) = if d.seat == seat then d.op ∷ done_by seat ds else done_by seat ds

-- the answers that are counted; how often one was given; that so many references are out
abbrev pub is : Answer → Answer → Bool
is answer.Held answer.Held = true
is answer.Closing answer.Closing = true
is answer.Kept answer.Kept = true
is answer.Owes answer.Owes = true
is answer.Last answer.Last = true
is answer.Drained answer.Drained = true
is answer.Done answer.Done = true
is _ _ = false

abbrev pub times : Answer → List Act → ℕ
times a deeds = count_by (λ d. is a d.answer) deeds

abbrev pub HaveLeft : List Act → ℕ → Type 0
HaveLeft deeds n =
    times answer.Held deeds + times answer.Closing deeds
    ≡ n + times answer.Kept deeds + times answer.Owes deeds + times answer.Last deeds

-- the number in the state word; a sum over the stakes of all seats
abbrev pub state_number : {R W : Type 0} → Moment R W → ℕ
state_number s = slice_index s.words STATE

abbrev pub summed : {R W : Type 0} → (Stake → ℕ) → Moment R W → ℕ
summed what s = sum_by (λ v. what v.stake) s.views

pub record Headline {R W : Type 0} (s : Moment R W) : Type 0 where
  -- one list has all that was done, and of each seat what that seat did, in its order
  pub deeds : List Act
  pub own : (seat : ℕ) → done_by seat deeds ≡ get_or (map (λ v. v.did) s.views) seat []
  pub unrefused : All (λ d. Contains (answers_to d.op) d.answer) deeds
  -- a flag is set, and the mark is made, by the one close, drain and destroy that there was, if any
  pub bits : state_number s < 2 ^ 64
  pub closed : state_number s % 2 ≡ times answer.Closing deeds
  pub draining : state_number s / 2 ^ 63 ≡ times answer.Drained deeds
  pub destroyed : slice_index s.words DONE ≡ times answer.Done deeds
  pub one_destroy : times answer.Done deeds ≤ 1
  -- lock bits and counts are those of all seats; signals that are owed or lie ready have waiters
  pub read_lock : state_number s / 2 % 2 ≡ summed (lock Read) s
  pub write_lock : state_number s / 4 % 2 ≡ summed (lock Write) s
  pub references : state_number s / 8 % 2 ^ 24 ≡ summed reference s
  pub in_use : HaveLeft deeds (summed reference s)
  pub readers : state_number s / 2 ^ 27 % 2 ^ 18 + summed (owed Read) s
      + slice_index s.words (semaphore Read) ≡ summed (queued Read) s
  pub writers : state_number s / 2 ^ 45 % 2 ^ 18 + summed (owed Write) s
      + slice_index s.words (semaphore Write) ≡ summed (queued Write) s
  -- at most one seat has a lock; its half is at home, with that seat, with a `Last`, or given away
  pub one_lock : (d : Dir) → summed (lock d) s ≤ 1
  pub one_place : (d : Dir) → half_home d (get_elem? s.homes (slot_of d)) + summed (lock d) s
      + sum_by (λ v. if v.took then duty v.stake else 0) s.views + slice_index s.words DONE ≡ 1
  -- one `Last` at most: with it the last reference of a closed word went back; its seat destroys
  pub one_last : times answer.Last deeds ≤ 1
  pub duties : summed duty s + times answer.Done deeds ≡ times answer.Last deeds
  pub last : (early late : List Act) (d : Act) → deeds ≡ early ++ d ∷ late → d.answer ≡ answer.Last
      → (times answer.Closing early ≡ 1) × HaveLeft (early ++ d ∷ []) 0
  pub destroy : (early late : List Act) (d : Act) → deeds ≡ early ++ d ∷ late → d.op ≡ op.Destroy
      → (o : Op) × Contains early (record { seat = d.seat; op = o; answer = answer.Last })
