-- Who returned the last reference and who destroyed, and how often.
use Rattle.std.proofs.Common.{◌≡◌, ◌+◌, ◌-◌, ◌≤◌, ◌∙◌, [], ◌∷◌}
use Rattle.std.specs.Prelude.{◌==◌, ◌&&◌, ◌⊎◌, if◌then◌else◌, count_by}
use Rattle.std.proofs.lemmas.List.Recursion.{is_count_by}
use Rattle.lockword_core.proofs.Words.{ℕ, Bool, true, false, List, refl, sym, ap, arith, inl, inr, is_some, cond}
use Rattle.lockword_core.proofs.Words.{nat_cmp, values_of, insert_entry, Dir, Read, Write, Stake, Op, Answer, Event}
use Rattle.lockword_core.proofs.Words.{MAX_REFERENCES, MAX_WAITERS, MAX_SIGNALS, signals_in, bit, LockState, empty}
use Rattle.lockword_core.proofs.Words.{Census, census, stake_of, references, locks, lasts, part, number, pending}
use Rattle.lockword_core.proofs.Words.{IsConsistent, Change, nothing, closes, drains, adds_signal, takes_signal}
use Rattle.lockword_core.proofs.Words.{destroys}
use Rattle.lockword_core.proofs.Words.{Outcome, refused, moved, allows, outcome, allowed_outcome, drop_outcome}
use Rattle.lockword_core.proofs.Words.{with_stake, with_change, carried_out, transition, stake_after_signal, lock_stake}
use Rattle.lockword_core.proofs.Words.{drains_stake}
use Rattle.lockword_core.proofs.Words.{state_after, answers_of}
use Rattle.lockword_core.specs.declared.stake.Stake.TheVariants as stake
use Rattle.lockword_core.specs.declared.stake.Op.TheVariants as op
use Rattle.lockword_core.specs.declared.stake.Answer.TheVariants as answer
use Rattle.lockword_core.specs.LockState.{count}
use Rattle.lockword_core.specs.Laws.{is_done, is_last}
use Rattle.lockword_core.proofs.CountLemmas.{changes-insert}
use Rattle.lockword_core.proofs.StateLemmas.{counted_in, transition_consistent, names-change, empty_consistent}
use Rattle.lockword_core.proofs.ReplayLemmas.{always_consistent}

-- ---- Who returned the last reference, and who destroyed

abbrev pub is_last_stake : Stake → Bool
is_last_stake stake.Last = true
is_last_stake _ = false

abbrev pub is_destroying : Change → Bool
is_destroying destroys = true
is_destroying _ = false

-- `done` is answered where a holder with `Last` destroys, and `last` where a holder gets `Last`
abbrev pub TellsEnds : Stake → Outcome → Type 0
TellsEnds own (refused a) = (is_done a ≡ false) × (is_last a ≡ false)
TellsEnds own (moved a new change) =
    (is_done a ≡ is_destroying change) × (is_last a ≡ is_last_stake new) × (is_last_stake own ≡ is_destroying change)

by_test : (b : Bool) (own : Stake) (x y : Outcome) → TellsEnds own x → TellsEnds own y
    → TellsEnds own (if b then x else y)
by_test true own x y p q = p
by_test false own x y p q = q

abbrev IsOther : Op → Type 0
IsOther op.Destroy = ⊥
IsOther _ = Unit {0}

not_last : (own : Stake) (o : Op) → IsOther o → allows own o ≡ true → is_last_stake own ≡ false
not_last stake.Last op.Incref other may = absurd (cc)
not_last stake.Last op.Decref other may = absurd (cc)
not_last stake.Last (op.Lock d) other may = absurd (cc)
not_last stake.Last (op.Unlock d) other may = absurd (cc)
not_last stake.Last (op.Signal d) other may = absurd (cc)
not_last stake.Last (op.Wake d) other may = absurd (cc)
not_last stake.Last op.Close other may = absurd (cc)
not_last stake.Last op.Drain other may = absurd (cc)
not_last stake.Last op.Destroy other may = absurd other
not_last _ o other may = refl

is_the_last : (own : Stake) → allows own op.Destroy ≡ true → is_last_stake own ≡ true
is_the_last stake.Last may = refl
is_the_last stake.Free may = absurd (cc)
is_the_last stake.Ref may = absurd (cc)
is_the_last stake.Read may = absurd (cc)
is_the_last stake.Write may = absurd (cc)
is_the_last (stake.Waits d) may = absurd (cc)
is_the_last (stake.Owes d) may = absurd (cc)
is_the_last (stake.Closing r w) may = absurd (cc)
is_the_last (stake.Drains r w) may = absurd (cc)

lock_is_not_last : (d : Dir) → is_last_stake (lock_stake d) ≡ false
lock_is_not_last Read = refl
lock_is_not_last Write = refl

drains_is_not_last : (r w : ℕ) → is_last_stake (drains_stake r w) ≡ false
drains_is_not_last r w = by (r == 0 && w == 0)
  where
    by : (t : Bool) → is_last_stake (if t then stake.Free else stake.Drains r w) ≡ false
    by true = refl
    by false = refl

signal_is_not_last : (d : Dir) (own : Stake) → is_last_stake (stake_after_signal d own) ≡ false
signal_is_not_last Read (stake.Closing r w) = refl
signal_is_not_last Write (stake.Closing r w) = refl
signal_is_not_last Read (stake.Drains r w) = drains_is_not_last (r - 1) w
signal_is_not_last Write (stake.Drains r w) = drains_is_not_last r (w - 1)
signal_is_not_last Read _ = refl
signal_is_not_last Write _ = refl

drop_tells : (c : Census) (own : Stake) → is_last_stake own ≡ false → TellsEnds own (drop_outcome c)
drop_tells c own other =
    by_test (c.closed && (number references c == 1)) own _ _ (refl, refl, other) (refl, refl, other)

allowed_tells : (c : Census) (own : Stake) (o : Op) → allows own o ≡ true → TellsEnds own (allowed_outcome c own o)
allowed_tells c own op.Incref may =
    by_test c.closed own _ _ (refl, refl)
    (by_test c.draining own _ _ (refl, refl)
    (by_test (number references c == MAX_REFERENCES) own _ _ (refl, refl)
    (refl, refl, not_last own op.Incref tt may)))
allowed_tells c own op.Decref may = drop_tells c own (not_last own op.Decref tt may)
allowed_tells c own (op.Lock d) may =
    let other = not_last own (op.Lock d) tt may in
    by_test c.closed own _ _ (refl, refl)
    (by_test c.draining own _ _ (refl, refl)
    (by_test (number (locks d) c == 0) own _ _
    (by_test (number references c == MAX_REFERENCES) own _ _ (refl, refl) (refl, sym (lock_is_not_last d), other))
    (by_test (pending d c == MAX_WAITERS) own _ _ (refl, refl) (refl, refl, other))))
allowed_tells c own (op.Unlock d) may =
    let other = not_last own (op.Unlock d) tt may in
    by_test (pending d c == 0) own _ _ (drop_tells c own other) (refl, refl, other)
allowed_tells c own (op.Signal d) may =
    by_test (signals_in d c.signals == MAX_SIGNALS) own _ _ (refl, refl)
    (refl, sym (signal_is_not_last d own), not_last own (op.Signal d) tt may)
allowed_tells c own (op.Wake d) may =
    by_test (signals_in d c.signals == 0) own _ _ (refl, refl) (refl, refl, not_last own (op.Wake d) tt may)
allowed_tells c own op.Close may =
    by_test c.closed own _ _ (refl, refl)
    (by_test (number references c == MAX_REFERENCES) own _ _ (refl, refl)
    (refl, refl, not_last own op.Close tt may))
allowed_tells c own op.Drain may =
    by_test c.closed own _ _ (refl, refl)
    (by_test c.draining own _ _ (refl, refl)
    (refl, sym (drains_is_not_last (pending Read c) (pending Write c)), not_last own op.Drain tt may))
allowed_tells c own op.Destroy may = (refl, refl, is_the_last own may)

pub tells_ends : (c : Census) (own : Stake) (o : Op) → TellsEnds own (outcome c own o)
tells_ends c own o = by (allows own o) refl
  where
    by : (t : Bool) → allows own o ≡ t → TellsEnds own (if t then allowed_outcome c own o else refused answer.Misuse)
    by true may = allowed_tells c own o may
    by false no_use = (refl, refl)

-- ---- How the ends are counted

-- a transition adds to the marks what it answers `done`, and to the last returns what it answers `last`
record Advances (s next : LockState) (a : Answer) : Type 0 where
  dones : bit (is_some next.destroyed_by) ≡ bit (is_some s.destroyed_by) + bit (is_done a)
  ends : number lasts (census next) + bit (is_some next.destroyed_by) ≡ number lasts (census s)
      + bit (is_some s.destroyed_by) + bit (is_last a)

part-last : (own : Stake) → part lasts own ≡ bit (is_last_stake own)
part-last stake.Last = refl
part-last _ = refl

pub stakes-change : (s : LockState) (holder : ℕ) (new : Stake) (change : Change)
    → (census (with_change (with_stake s holder new) holder change)).stakes
    ≡ values_of (insert_entry nat_cmp s.holders holder new)
stakes-change s holder new change = ap values_of (names-change (with_stake s holder new) holder change)

pub mark-change : (s : LockState) (holder : ℕ) (change : Change)
    → bit (is_some s.destroyed_by) ≡ 0 ⊎ (is_destroying change ≡ false)
    → bit (is_some (with_change s holder change).destroyed_by) ≡ bit (is_some s.destroyed_by)
    + bit (is_destroying change)
mark-change s holder nothing may = omega arith
mark-change s holder closes may = omega arith
mark-change s holder drains may = omega arith
mark-change s holder (adds_signal d) may = omega arith
mark-change s holder (takes_signal d) may = omega arith
mark-change s holder destroys (inl none) = omega arith
mark-change s holder destroys (inr other) = absurd (cc)

bit-le : (b : Bool) → bit b ≤ 1
bit-le true = omega arith
bit-le false = omega arith

-- a holder with `Last` is there only before the mark
pub no_mark_yet : (s : LockState) (holder : ℕ) (change : Change) → IsConsistent s
    → is_last_stake (stake_of s holder) ≡ is_destroying change
    → bit (is_some s.destroyed_by) ≡ 0 ⊎ (is_destroying change ≡ false)
no_mark_yet s holder change good own_last = by (is_destroying change) refl
  where
    by : (t : Bool) → is_destroying change ≡ t → bit (is_some s.destroyed_by) ≡ 0 ⊎ (is_destroying change ≡ false)
    by false e = inr e
    by true e =
        let is_one : part lasts (stake_of s holder) ≡ 1 = part-last (stake_of s holder) ∙ ap bit (own_last ∙ e) in
        let counted = (counted_in s holder good).at_least lasts in
        let one = good.counts.one_last in
        let small = bit-le (s.closed && (number references (census s) == 0)) in
        inl (omega arith)

advances_carried : (s : LockState) (holder : ℕ) (o : Outcome) → IsConsistent s → TellsEnds (stake_of s holder) o
    → Advances s (carried_out s holder o).0 (carried_out s holder o).1
advances_carried s holder (refused a) good (done, last) =
    let not_done : bit (is_done a) ≡ 0 = ap bit done in
    let not_last : bit (is_last a) ≡ 0 = ap bit last in
    record { dones = omega arith; ends = omega arith }
advances_carried s holder (moved a new change) good (done, last, own_last) =
    let next : LockState = with_change (with_stake s holder new) holder change in
    let mark : bit (is_some next.destroyed_by) ≡ bit (is_some s.destroyed_by) + bit (is_destroying change) =
    mark-change (with_stake s holder new) holder change (no_mark_yet s holder change good own_last) in
    let is_done_bit : bit (is_done a) ≡ bit (is_destroying change) = ap bit done in
    let is_last_bit : bit (is_last a) ≡ bit (is_last_stake new) = ap bit last in
    let own_bit : part lasts (stake_of s holder) ≡ bit (is_destroying change) =
    part-last (stake_of s holder) ∙ ap bit own_last in
    let new_bit : part lasts new ≡ bit (is_last_stake new) = part-last new in
    let one = changes-insert s.holders holder new good.names in
    let before : number lasts (census s) ≡ part lasts (stake_of s holder) + one.others lasts =
    one.counted_before lasts in
    let after_change : count lasts (census next).stakes ≡ part lasts new + one.others lasts =
    ap (count lasts) (stakes-change s holder new change) ∙ one.counted_after lasts in
    record { dones = omega arith; ends = omega arith }

advances : (s : LockState) (holder : ℕ) (o : Op) → IsConsistent s
    → Advances s (transition s holder o).0 (transition s holder o).1
advances s holder o good =
    advances_carried s holder (outcome (census s) (stake_of s holder) o) good
    (tells_ends (census s) (stake_of s holder) o)

-- how many answers pass, answer by answer
abbrev pub passing : (Answer → Bool) → List Answer → ℕ
passing p [] = 0
passing p (a ∷ answers) = cond (p a) (1 + passing p answers) (passing p answers)

pub passing-is : (p : Answer → Bool) (answers : List Answer) → passing p answers ≡ count_by p answers
passing-is p answers = is_count_by (passing p) p refl (λ x xs. refl) answers

pub passing-cons : (p : Answer → Bool) (a : Answer) (answers : List Answer)
    → passing p (a ∷ answers) ≡ bit (p a) + passing p answers
passing-cons p a answers = by (p a)
  where
    by : (t : Bool) → cond t (1 + passing p answers) (passing p answers) ≡ bit t + passing p answers
    by true = refl
    by false = omega arith

dones_along : (s : LockState) (events : List Event) → IsConsistent s
    → bit (is_some s.destroyed_by) + passing is_done (answers_of s events)
    ≡ bit (is_some (state_after s events).destroyed_by)
dones_along s [] good = omega arith
dones_along s (e ∷ events) good =
    let step = advances s e.holder e.op good in
    let rest = dones_along (transition s e.holder e.op).0 events (transition_consistent s e.holder e.op good) in
    let first = passing-cons is_done (transition s e.holder e.op).1
    (answers_of (transition s e.holder e.op).0 events) in
    omega (arith, step.dones)

ends_along : (s : LockState) (events : List Event) → IsConsistent s
    → number lasts (census s) + bit (is_some s.destroyed_by) + passing is_last (answers_of s events)
    ≡ number lasts (census (state_after s events)) + bit (is_some (state_after s events).destroyed_by)
ends_along s [] good = omega arith
ends_along s (e ∷ events) good =
    let step = advances s e.holder e.op good in
    let rest = ends_along (transition s e.holder e.op).0 events (transition_consistent s e.holder e.op good) in
    let first = passing-cons is_last (transition s e.holder e.op).1
    (answers_of (transition s e.holder e.op).0 events) in
    omega (arith, step.ends)

pub done_once : (events : List Event)
    → count_by is_done (answers_of empty events) ≡ bit (is_some (state_after empty events).destroyed_by)
done_once events =
    let along = dones_along empty events empty_consistent in sym (passing-is is_done (answers_of empty events))
    ∙ (omega arith)

pub last_once : (events : List Event) → count_by is_last (answers_of empty events) ≤ 1
last_once events =
    let along = ends_along empty events empty_consistent in
    let is = passing-is is_last (answers_of empty events) in
    let one = (always_consistent events).counts.one_last in
    let small = bit-le
    ((state_after empty events).closed && (number references (census (state_after empty events)) == 0)) in
    omega arith
