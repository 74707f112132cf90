-- The table of decisions, read from the counts, is what the operation decides by its own definition.
use Rattle.std.proofs.Common.{◌≡◌, ◌≤◌, ◌∙◌}
use Rattle.std.specs.Prelude.{◌==◌, ◌&&◌, if◌then◌else◌, Result, Ok}
use Rattle.lockword_core.proofs.Words.{ℕ, Bool, true, false, refl, sym, ap, arith, None, Some, not, Err, nat_tests, Dir}
use Rattle.lockword_core.proofs.Words.{Read, Write, Stake, Word, CLOSED, MAX_REFERENCES, MAX_WAITERS, Kind, After}
use Rattle.lockword_core.proofs.Words.{Refused, bit, packed, Census, references, locks, number, pending, IsCounted}
use Rattle.lockword_core.proofs.Words.{field_step, fields_in, Change, nothing, closes, drains, Outcome, refused, moved}
use Rattle.lockword_core.proofs.Words.{allows, allowed_outcome, lock_stake, op_of, gained}
use Rattle.lockword_core.specs.declared.stake.Stake.TheVariants as stake
use Rattle.lockword_core.specs.declared.stake.Answer.TheVariants as answer
use Rattle.lockword_core.specs.declared.transition.Kind.TheVariants as kind
use Rattle.lockword_core.specs.declared.transition.After.TheVariants as after
use Rattle.lockword_core.specs.declared.transition.Refused.TheVariants as why
use Rattle.lockword_core.specs.FieldStep.{unless_refused}
use Rattle.lockword_core.specs.WordStep.{refusal_of}
use Rattle.lockword_core.proofs.WordFields.{packs_back}
use Rattle.lockword_core.proofs.BalanceLemmas.{IsBalanced, reads_as}

-- ---- The table, read from the counts

-- the fields that the counts give
abbrev pub fields_of : Census → Word
fields_of c =
    record {
      closed = c.closed;
      rlock = not (number (locks Read) c == 0);
      wlock = not (number (locks Write) c == 0);
      refs = number references c;
      rwait = pending Read c;
      wwait = pending Write c;
      drain = c.draining;
    }

-- what a step changes beside the stake
abbrev pub change_of : Kind → Change
change_of kind.Close = closes
change_of kind.Drain = drains
change_of _ = nothing

-- a result on the fields, as an outcome
abbrev pub outcome_of : Kind → Result (Word × After) Refused → Outcome
outcome_of k (Ok (f, a)) = moved (gained k a).0 (gained k a).1 (change_of k)
outcome_of k (Err e) = refused (refusal_of e)

pub flag_is : (b : Bool) (r : ℕ) → r ≡ bit b → b ≡ (r == CLOSED)
flag_is true r e = rw e refl
flag_is false r e = rw e refl

-- the fields of the word are those that the counts give
pub same_fields : (c : Census) (n : ℕ) → IsBalanced c n → fields_in n ≡ fields_of c
same_fields c n b i =
    let r = reads_as c n b in
    record {
      closed = sym (flag_is c.closed _ r.flag) i;
      rlock = not (r.lock Read i == 0);
      wlock = not (r.lock Write i == 0);
      refs = r.refs i;
      rwait = r.waiters Read i;
      wwait = r.waiters Write i;
      drain = sym (flag_is c.draining _ r.drain) i;
    }

pub packs_fields : (c : Census) (n : ℕ) → IsBalanced c n → packed (fields_of c) ≡ n
packs_fields c n b = ap packed (sym (same_fields c n b)) ∙ packs_back n (reads_as c n b).is_word

some_is : (n : ℕ) → 1 ≤ n → (n == 0) ≡ false
some_is n some = grind (arith, nat_tests)

-- where something is taken
takes_is : (k : Kind) (b e t : Bool) (x : Word × After)
    → (if b then refused answer.Closed
    else if e then refused answer.Draining
    else if t then refused answer.TooMany
    else outcome_of k (Ok x))
    ≡ outcome_of k
    (unless_refused (if b then Some why.Closed
    else if e then Some why.Draining
    else if t then Some why.TooMany
    else None) x)
takes_is k true e t x = refl
takes_is k false true t x = refl
takes_is k false false true x = refl
takes_is k false false false x = refl

-- where a lock is taken, or a place in its queue
lock_is : (d : Dir) (b e l t u : Bool) (g : Word)
    → (if b then refused answer.Closed
    else if e then refused answer.Draining
    else if l then (if t then refused answer.TooMany else moved answer.Held (lock_stake d) nothing)
    else if u then refused answer.TooMany else moved answer.Queued (stake.Waits d) nothing)
    ≡ outcome_of (kind.Lock d)
    (unless_refused (if b then Some why.Closed
    else if e then Some why.Draining
    else if (if not l then u else t) then Some why.TooMany
    else None)
    (g, if not l then after.Queued else after.Held))
lock_is d true e l t u g = refl
lock_is d false true l t u g = refl
lock_is d false false true true u g = refl
lock_is d false false true false u g = refl
lock_is d false false false t true g = refl
lock_is d false false false t false g = refl

-- where a reference is given back, which the holder has
drop_is : (z b : Bool) (g : Word) → z ≡ false
    → (if b then moved answer.Last stake.Last nothing else moved answer.Kept stake.Free nothing)
    ≡ outcome_of kind.Decref
    (unless_refused (if z then Some why.Misuse else None) (g, if b then after.Last else after.Kept))
drop_is true b g e = absurd (cc)
drop_is false true g e = refl
drop_is false false g e = refl

-- where a lock is given back, which the holder has with its reference
unlock_is : (d : Dir) (z y w b : Bool) (g : Word) → z ≡ false → y ≡ false
    → (if w then (if b then moved answer.Last stake.Last nothing else moved answer.Kept stake.Free nothing)
    else moved answer.Owes (stake.Owes d) nothing)
    ≡ outcome_of (kind.Unlock d)
    (unless_refused (if not (not z) then Some why.Misuse else if y then Some why.Misuse else None)
    (g, if w then (if b then after.Last else after.Kept) else after.Owes))
unlock_is d true y w b g e f = absurd (cc)
unlock_is d false true w b g e f = absurd (cc)
unlock_is d false false true true g e f = refl
unlock_is d false false true false g e f = refl
unlock_is d false false false b g e f = refl

-- the operation that the stake allows comes to what the table says of the fields that the counts give
pub allowed_is : (c : Census) (own : Stake) (k : Kind) → IsCounted c own → allows own (op_of k) ≡ true
    → allowed_outcome c own (op_of k) ≡ outcome_of k (field_step (fields_of c) k)
allowed_is c own kind.Incref counted may =
    takes_is kind.Incref c.closed c.draining (number references c == MAX_REFERENCES) _
allowed_is c own kind.Close counted may = takes_is kind.Close c.closed false (number references c == MAX_REFERENCES) _
allowed_is c own kind.Drain counted may = takes_is kind.Drain c.closed c.draining false _
allowed_is c own (kind.Lock Read) counted may =
    lock_is Read c.closed c.draining (number (locks Read) c == 0) (number references c == MAX_REFERENCES)
    (pending Read c == MAX_WAITERS) _
allowed_is c own (kind.Lock Write) counted may =
    lock_is Write c.closed c.draining (number (locks Write) c == 0) (number references c == MAX_REFERENCES)
    (pending Write c == MAX_WAITERS) _
allowed_is c stake.Ref kind.Decref counted may =
    drop_is _ (c.closed && (number references c == 1)) _ (some_is _ (counted.at_least references))
allowed_is c (stake.Closing r w) kind.Decref counted may =
    drop_is _ (c.closed && (number references c == 1)) _ (some_is _ (counted.at_least references))
allowed_is c stake.Read (kind.Unlock Read) counted may =
    unlock_is Read _ _ (pending Read c == 0) (c.closed && (number references c == 1)) _
    (some_is _ (counted.at_least (locks Read))) (some_is _ (counted.at_least references))
allowed_is c stake.Write (kind.Unlock Write) counted may =
    unlock_is Write _ _ (pending Write c == 0) (c.closed && (number references c == 1)) _
    (some_is _ (counted.at_least (locks Write))) (some_is _ (counted.at_least references))
allowed_is c stake.Read (kind.Unlock Write) counted may = absurd (cc)
allowed_is c stake.Write (kind.Unlock Read) counted may = absurd (cc)
allowed_is c _ kind.Decref counted may = absurd (cc)
allowed_is c _ (kind.Unlock d) counted may = absurd (cc)
