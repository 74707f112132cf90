-- What a step on the state word changes of the counts and of the halves.
use Rattle.std.proofs.Common.{◌≡◌, ◌+◌, ◌≤◌}
use Rattle.std.specs.Prelude.{◌==◌, ◌&&◌, if◌then◌else◌}
use Rattle.lockword.proofs.Words.{ℕ, Bool, true, false, List, refl, arith, Dir, Read, Write, Stake, Kind, After, bit, Census}
use Rattle.lockword.proofs.Words.{locks, lasts, part, number, lock_stake, allows, op_of, gained, count-within}
use Rattle.lockword.proofs.Words.{IsBalanced, change_of, Half, saw_after, saw_drain_after, Carries}
use Rattle.lockword_core.specs.declared.stake.Stake.TheVariants as stake
use Rattle.lockword_core.specs.declared.transition.Kind.TheVariants as kind
use Rattle.lockword_core.specs.declared.transition.After.TheVariants as after
use Rattle.lockword_core.specs.declared.stake.Op.TheVariants as op
use Rattle.lockword_core.specs.LockState.{is_same}
use Rattle.lockword_core.specs.Transition.{changed, drains_stake}

-- ---- The balance after a step

-- the closed flag after a step is set by a close alone, the drain flag by a drain alone
pub flag_after : (k : Kind) (c : Census) (ys : List Stake) (m : ℕ) → IsBalanced (changed c ys (change_of k)) m
    → IsBalanced
    (record c { stakes = ys; closed = saw_after k c.closed; draining = saw_drain_after k c.draining }) m
flag_after kind.Incref c ys m b = b
flag_after kind.Decref c ys m b = b
flag_after (kind.Lock d) c ys m b = b
flag_after (kind.Unlock d) c ys m b = b
flag_after kind.Close c ys m b = b
flag_after kind.Drain c ys m b = b

pub flag_grows : (k : Kind) (c : Bool) → c ≡ true → saw_after k c ≡ true
flag_grows kind.Incref c e = e
flag_grows kind.Decref c e = e
flag_grows (kind.Lock d) c e = e
flag_grows (kind.Unlock d) c e = e
flag_grows kind.Close c e = refl
flag_grows kind.Drain c e = e

pub drain_grows : (k : Kind) (d : Bool) → d ≡ true → saw_drain_after k d ≡ true
drain_grows kind.Incref d e = e
drain_grows kind.Decref d e = e
drain_grows (kind.Lock way) d e = e
drain_grows (kind.Unlock way) d e = e
drain_grows kind.Close d e = e
drain_grows kind.Drain d e = refl

pub saw_so : (k : Kind) (v c : Bool) → (v ≡ true → c ≡ true) → saw_after k v ≡ true → saw_after k c ≡ true
saw_so kind.Incref v c f e = f e
saw_so kind.Decref v c f e = f e
saw_so (kind.Lock d) v c f e = f e
saw_so (kind.Unlock d) v c f e = f e
saw_so kind.Close v c f e = refl
saw_so kind.Drain v c f e = f e

pub saw_drain_so : (k : Kind) (v c : Bool) → (v ≡ true → c ≡ true) → saw_drain_after k v ≡ true
    → saw_drain_after k c ≡ true
saw_drain_so kind.Incref v c f e = f e
saw_drain_so kind.Decref v c f e = f e
saw_drain_so (kind.Lock d) v c f e = f e
saw_drain_so (kind.Unlock d) v c f e = f e
saw_drain_so kind.Close v c f e = f e
saw_drain_so kind.Drain v c f e = refl

pub not_last : (own : Stake) (k : Kind) → allows own (op_of k) ≡ true → part lasts own ≡ 0
not_last stake.Last kind.Incref may = absurd (cc)
not_last stake.Last kind.Decref may = absurd (cc)
not_last stake.Last (kind.Lock d) may = absurd (cc)
not_last stake.Last (kind.Unlock d) may = absurd (cc)
not_last stake.Last kind.Close may = absurd (cc)
not_last stake.Last kind.Drain may = absurd (cc)
not_last _ k may = refl

-- ---- Steps that move no half

-- a step that moves no half
abbrev pub MovesNoHalf : Kind → After → Type 0
MovesNoHalf kind.Incref a = Unit {0}
MovesNoHalf kind.Decref a = Unit {0}
MovesNoHalf kind.Close a = Unit {0}
MovesNoHalf kind.Drain a = Unit {0}
MovesNoHalf (kind.Lock d) after.Queued = Unit {0}
MovesNoHalf _ _ = ⊥

pub own_lockless : (own : Stake) (k : Kind) (a : After) (d : Dir) → MovesNoHalf k a → allows own (op_of k) ≡ true
    → part (locks d) own ≡ 0
own_lockless stake.Read kind.Incref a d still may = absurd (cc)
own_lockless stake.Read kind.Decref a d still may = absurd (cc)
own_lockless stake.Read kind.Close a d still may = absurd (cc)
own_lockless stake.Read kind.Drain a d still may = absurd (cc)
own_lockless stake.Read (kind.Lock e) a d still may = absurd (cc)
own_lockless stake.Read (kind.Unlock e) a d still may = absurd still
own_lockless stake.Write kind.Incref a d still may = absurd (cc)
own_lockless stake.Write kind.Decref a d still may = absurd (cc)
own_lockless stake.Write kind.Close a d still may = absurd (cc)
own_lockless stake.Write kind.Drain a d still may = absurd (cc)
own_lockless stake.Write (kind.Lock e) a d still may = absurd (cc)
own_lockless stake.Write (kind.Unlock e) a d still may = absurd still
own_lockless _ k a d still may = refl

-- a drainer has no lock, whether it owes signals or nothing
pub drainer_lockless : (d : Dir) (r w : ℕ) → part (locks d) (drains_stake r w) ≡ 0
drainer_lockless d r w = by (r == 0 && w == 0)
  where
    by : (t : Bool) → part (locks d) (if t then stake.Free else stake.Drains r w) ≡ 0
    by true = refl
    by false = refl

pub new_lockless : (k : Kind) (a : After) (d : Dir) → MovesNoHalf k a → part (locks d) (gained k a).1 ≡ 0
new_lockless kind.Incref after.Held d still = refl
new_lockless kind.Incref _ d still = refl
new_lockless kind.Decref after.Kept d still = refl
new_lockless kind.Decref after.Last d still = refl
new_lockless kind.Decref _ d still = refl
new_lockless kind.Close (after.Closing r w) d still = refl
new_lockless kind.Close _ d still = refl
new_lockless kind.Drain (after.Drained r w) d still = drainer_lockless d r w
new_lockless kind.Drain _ d still = refl
new_lockless (kind.Lock e) after.Queued d still = refl
new_lockless (kind.Lock e) _ d still = absurd still
new_lockless (kind.Unlock e) _ d still = absurd still

carries_same : {R W : Type 0} (k : Kind) (a : After) (slots : List (ℕ × Half R W)) → MovesNoHalf k a
    → Carries k a slots slots
carries_same kind.Incref a slots still = refl
carries_same kind.Decref a slots still = refl
carries_same kind.Close a slots still = refl
carries_same kind.Drain a slots still = refl
carries_same (kind.Lock d) after.Queued slots still = refl
carries_same (kind.Lock d) _ slots still = absurd still
carries_same (kind.Unlock d) _ slots still = absurd still

pub is_free : (own : Stake) (d : Dir) → allows own (op_of (kind.Lock d)) ≡ true → own ≡ stake.Free
is_free stake.Free d may = refl
is_free _ d may = absurd (cc)

pub is_holder : (own : Stake) (d : Dir) → allows own (op_of (kind.Unlock d)) ≡ true → own ≡ lock_stake d
is_holder stake.Read Read may = refl
is_holder stake.Write Write may = refl
is_holder stake.Read Write may = absurd (cc)
is_holder stake.Write Read may = absurd (cc)
is_holder _ d may = absurd (cc)

-- an unlock leaves no lock
pub unlocked : (e : Dir) (a : After) (d : Dir) → part (locks d) (gained (kind.Unlock e) a).1 ≡ 0
unlocked e after.Owes d = refl
unlocked e after.Kept d = refl
unlocked e after.Last d = refl
unlocked e _ d = refl

-- ---- Steps that move a half

pub lock_part : (e d : Dir) → part (locks e) (lock_stake d) ≡ bit (is_same e d)
lock_part e Read = refl
lock_part e Write = refl

pub lock_not_last : (d : Dir) → part lasts (lock_stake d) ≡ 0
lock_not_last Read = refl
lock_not_last Write = refl

pub holder_may : (d : Dir) → allows (lock_stake d) (op.Unlock d) ≡ true
holder_may Read = refl
holder_may Write = refl

pub one_more : (before now others b p : ℕ) → before ≡ 0 + others → now ≡ p + others → p ≡ b → now ≡ b + before
one_more before now others b p e f g = omega arith

pub one_less : (before now others b p q : ℕ) → before ≡ p + others → now ≡ q + others → p ≡ b → q ≡ 0 → before ≡ b + now
one_less before now others b p q e f g h = omega arith

-- whoever has just taken a lock is the only holder of it, and nobody took the halves
pub locks_alone : (d : Dir) (c : Census) (m x k : ℕ) → IsBalanced c m → number (locks d) c ≡ bit (is_same d d) + x
    → k ≤ number lasts c → (x ≡ 0) × (k ≡ 0) × (bit c.destroyed ≡ 0)
locks_alone Read c m x k b locked few =
    let one = b.reading.one_holder in let held = count-within c.stakes in let calm = b.in_use (omega arith) in
    (omega arith, omega arith, omega arith)
locks_alone Write c m x k b locked few =
    let one = b.writing.one_holder in let held = count-within c.stakes in let calm = b.in_use (omega arith) in
    (omega arith, omega arith, omega arith)
