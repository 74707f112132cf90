-- What the table of decisions shows, by what a step comes to.
use Rattle.std.proofs.Common.{◌≡◌, ◌≢◌, [], ◌∷◌, Err}
use Rattle.std.specs.Prelude.{◌==◌, ◌&&◌, ◌||◌, if◌then◌else◌}
use Rattle.lockword_core.proofs.Words.{ℕ, Bool, true, false, List, refl, subst, arith, Option, None, Some, Result, Ok}
use Rattle.lockword_core.proofs.Words.{not, nat_tests, Dir, Word, MAX_REFERENCES, MAX_WAITERS, Kind, After, Refused}
use Rattle.lockword_core.proofs.Words.{lock_of, waiters_of, fields_after, field_step}
use Rattle.lockword_core.specs.declared.transition.Kind.TheVariants as kind
use Rattle.lockword_core.specs.declared.transition.After.TheVariants as after
use Rattle.lockword_core.specs.declared.transition.Refused.TheVariants as why
use Rattle.lockword_core.specs.FieldStep.{Guard, guards, is_full, left, comes_to, first_refusal, unless_refused}

-- ---- Tests

pub same_numbers : (a b : ℕ) → (a == b) ≡ true → a ≡ b
same_numbers a b e = grind (arith, nat_tests)

pub other_numbers : (a b : ℕ) → (a == b) ≡ false → a ≢ b
other_numbers a b e = grind (arith, nat_tests)

pub not_true : (b : Bool) → not b ≡ true → b ≡ false
not_true true e = absurd (cc)
not_true false e = refl

pub not_false : (b : Bool) → not b ≡ false → b ≡ true
not_false true e = refl
not_false false e = absurd (cc)

-- ---- A list of tests

abbrev is_refusal : Refused → Refused → Bool
is_refusal why.Closed why.Closed = true
is_refusal why.TooMany why.TooMany = true
is_refusal why.Misuse why.Misuse = true
is_refusal why.Draining why.Draining = true
is_refusal _ _ = false

-- some test with this refusal holds
abbrev pub holds : Refused → List Guard → Bool
holds e [] = false
holds e (g ∷ gs) = if is_refusal e g.0 then (holds e gs || g.1) else holds e gs

-- no test refuses, or this is the refusal of the first that holds
abbrev pub Judged : List Guard → Option Refused → Type 0
Judged gs None = (e : Refused) → holds e gs ≡ false
Judged gs (Some e) = holds e gs ≡ true

is_itself : (e : Refused) → is_refusal e e ≡ true
is_itself why.Closed = refl
is_itself why.TooMany = refl
is_itself why.Misuse = refl
is_itself why.Draining = refl

or_true : (b : Bool) → (b || true) ≡ true
or_true true = refl
or_true false = refl

pub judged : (gs : List Guard) → Judged gs (first_refusal gs)
judged [] = λ e. refl
judged (g ∷ gs) = by g.1 refl (first_refusal gs) (judged gs)
  where
    passes : (t : Bool) → (is : Bool) → t ≡ false → (if is then (t || false) else t) ≡ false
    passes t true e = rw e refl
    passes t false e = e

    also : (t is : Bool) → t ≡ true → (if is then (t || false) else t) ≡ true
    also t true e = rw e refl
    also t false e = e

    here : (t is : Bool) → is ≡ true → (if is then (t || true) else t) ≡ true
    here t true e = or_true t
    here t false e = absurd (cc)

    by : (t : Bool) → g.1 ≡ t → (r : Option Refused) → Judged gs r → Judged (g ∷ gs) (if t then Some g.0 else r)
    by true e r rest = rw e (here (holds g.0 gs) (is_refusal g.0 g.0) (is_itself g.0))
    by false e None rest = λ x. rw e (passes (holds x gs) (is_refusal x g.0) (rest x))
    by false e (Some x) rest = rw e (also (holds x gs) (is_refusal x g.0) rest)

-- ---- What a step shows

-- the reference that went was the last one of a closed word, or it was not
abbrev pub IsLeft : Word → After → Type 0
IsLeft f after.Last = (f.closed ≡ true) × (f.refs ≡ 1)
IsLeft f after.Kept = f.closed ≡ true → f.refs ≢ 1
IsLeft f _ = ⊥

-- somebody has the lock of the direction, with its reference
pub record IsHeld (d : Dir) (f : Word) : Type 0 where
  pub locked : lock_of d f ≡ true
  pub counted : f.refs ≢ 0

-- what the fields show where a step comes to this, beside that no test refuses it
abbrev pub Shows : Word → Kind → After → Type 0
Shows f kind.Incref after.Held = f.refs ≢ MAX_REFERENCES
Shows f kind.Decref a = (f.refs ≢ 0) × IsLeft f a
Shows f (kind.Lock d) after.Held = (lock_of d f ≡ false) × (f.refs ≢ MAX_REFERENCES)
Shows f (kind.Lock d) after.Queued = (lock_of d f ≡ true) × (waiters_of d f ≢ MAX_WAITERS)
Shows f (kind.Unlock d) after.Owes = IsHeld d f × (waiters_of d f ≢ 0)
Shows f (kind.Unlock d) a = IsHeld d f × IsLeft f a
Shows f kind.Close (after.Closing r w) = (f.refs ≢ MAX_REFERENCES) × (r ≡ f.rwait) × (w ≡ f.wwait)
Shows f kind.Drain (after.Drained r w) = (r ≡ f.rwait) × (w ≡ f.wwait)
Shows f _ _ = ⊥

-- a step of this kind comes to this and leaves these fields
pub record IsMade (f : Word) (k : Kind) (a : After) (g : Word) : Type 0 where
  pub passes : (e : Refused) → holds e (guards f k) ≡ false
  pub shows : Shows f k a
  pub leaves : g ≡ fields_after f k a

by_test : {A : Type 0} (P : A → Type 0) (b : Bool) (x y : A) → (b ≡ true → P x) → (b ≡ false → P y)
    → P (if b then x else y)
by_test P true x y f g = f refl
by_test P false x y f g = g refl

is_left : (f : Word) → IsLeft f (left f)
is_left f = by_test (IsLeft f) (f.closed && (f.refs == 1)) _ _ (both f.closed) (never f.closed)
  where
    both : (b : Bool) → (b && (f.refs == 1)) ≡ true → (b ≡ true) × (f.refs ≡ 1)
    both true e = (refl, same_numbers _ _ e)
    both false e = absurd (cc)

    never : (b : Bool) → (b && (f.refs == 1)) ≡ false → b ≡ true → f.refs ≢ 1
    never true e t = other_numbers _ _ e
    never false e t = absurd (cc)

shows : (f : Word) (k : Kind) → ((e : Refused) → holds e (guards f k) ≡ false) → Shows f k (comes_to f k)
shows f kind.Incref passes = other_numbers _ _ (passes why.TooMany)
shows f kind.Decref passes = (other_numbers _ _ (passes why.Misuse), is_left f)
shows f (kind.Lock d) passes = by (lock_of d f) refl (passes why.TooMany)
  where
    by : (b : Bool) → lock_of d f ≡ b
        → (if b then (waiters_of d f == MAX_WAITERS) else (f.refs == MAX_REFERENCES)) ≡ false
        → Shows f (kind.Lock d) (if b then after.Queued else after.Held)
    by true e room = (e, other_numbers _ _ room)
    by false e room = (e, other_numbers _ _ room)
shows f (kind.Unlock d) passes =
    let held = is_held (lock_of d f) (f.refs == 0) refl refl (passes why.Misuse) in
    by_test (Shows f (kind.Unlock d)) (waiters_of d f == 0) _ _ (λ _. gone held (left f) (is_left f))
    (λ e. (held, other_numbers _ _ e))
  where
    is_held : (l z : Bool) → lock_of d f ≡ l → (f.refs == 0) ≡ z → (z || not l) ≡ false → IsHeld d f
    is_held l true e h passed = absurd (cc)
    is_held true false e h passed = record { locked = e; counted = other_numbers _ _ h }
    is_held false false e h passed = absurd (cc)

    gone : IsHeld d f → (a : After) → IsLeft f a → Shows f (kind.Unlock d) a
    gone held after.Last l = (held, l)
    gone held after.Kept l = (held, l)
    gone held _ l = absurd l
shows f kind.Close passes = (other_numbers _ _ (passes why.TooMany), refl, refl)
shows f kind.Drain passes = (refl, refl)

-- a step is made, or is refused by the first test that holds
abbrev pub Stepped : Word → Kind → Result (Word × After) Refused → Type 0
Stepped f k (Ok (g, a)) = IsMade f k a g
Stepped f k (Err e) = first_refusal (guards f k) ≡ Some e

pub stepped : (f : Word) (k : Kind) → Stepped f k (field_step f k)
stepped f k = by (first_refusal (guards f k)) refl (judged (guards f k))
  where
    by : (r : Option Refused) → first_refusal (guards f k) ≡ r → Judged (guards f k) r
        → Stepped f k (unless_refused r (fields_after f k (comes_to f k), comes_to f k))
    by None is passes = record { passes = passes; shows = shows f k passes; leaves = refl }
    by (Some e) is holds = is

-- ---- What a refusal shows

pub refused_holds : (f : Word) (k : Kind) (e : Refused) → first_refusal (guards f k) ≡ Some e
    → holds e (guards f k) ≡ true
refused_holds f k e is = subst (Judged (guards f k)) is (judged (guards f k))

-- a word that is full is not closed
pub full_is_open : (f : Word) (k : Kind) → first_refusal (guards f k) ≡ Some why.TooMany → f.closed ≡ false
full_is_open f k is = by k is
  where
    open_first : (b c t : Bool)
        → (if b then Some why.Closed else if c then Some why.Draining else if t then Some why.TooMany else None)
        ≡ Some why.TooMany
        → b ≡ false
    open_first true c t e = absurd (cc)
    open_first false c t e = refl

    misuse : (b t : Bool) → (if b then Some why.Misuse else if t then Some why.Misuse else None) ≡ Some why.TooMany → ⊥
    misuse true t e = absurd (cc)
    misuse false true e = absurd (cc)
    misuse false false e = absurd (cc)

    by : (k : Kind) → first_refusal (guards f k) ≡ Some why.TooMany → f.closed ≡ false
    by kind.Incref e = open_first f.closed f.drain (f.refs == MAX_REFERENCES) e
    by kind.Close e = open_first f.closed false (f.refs == MAX_REFERENCES) e
    by kind.Drain e = open_first f.closed f.drain false e
    by (kind.Lock d) e = open_first f.closed f.drain (is_full d f) e
    by kind.Decref e = absurd (misuse false (f.refs == 0) e)
    by (kind.Unlock d) e = absurd (misuse (not (lock_of d f)) (f.refs == 0) e)
