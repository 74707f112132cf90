-- The table of decisions: which tests refuse a step, what it comes to where none does, and which
-- fields it leaves. A step on the packed word is the step on its fields.
use Rattle.std.specs.Prelude.{◌==◌, ◌+◌, ◌-◌, ℕ, Bool, true, false, not, ◌&&◌, List, [], ◌∷◌}
use Rattle.std.specs.Prelude.{Option, None, Some, Result, Ok, Err, if◌then◌else◌}
use Rattle.base_types.specs.declared.direction.Dir.{Dir}
use Rattle.base_types.specs.declared.direction.Dir.TheVariants.{Read, Write}
use Rattle.lockword_core.specs.declared.word.Word.{Word}
use Rattle.lockword_core.specs.declared.word.TheConstants.{MAX_REFERENCES, MAX_WAITERS}
use Rattle.lockword_core.specs.declared.transition.Kind.{Kind}
use Rattle.lockword_core.specs.declared.transition.Kind.TheVariants as kind
use Rattle.lockword_core.specs.declared.transition.After.{After}
use Rattle.lockword_core.specs.declared.transition.After.TheVariants as after
use Rattle.lockword_core.specs.declared.transition.Refused.{Refused}
use Rattle.lockword_core.specs.declared.transition.Refused.TheVariants as why
use Rattle.lockword_core.specs.Word.{packed, closed_in, drain_in, lock_in, references_in}
use Rattle.lockword_core.specs.Word.{waiters_in}

-- ---- The seven fields

-- the lock bit of a direction
abbrev pub lock_of : Dir → Word → Bool
lock_of Read f = f.rlock
lock_of Write f = f.wlock

-- the waiters of a direction
abbrev pub waiters_of : Dir → Word → ℕ
waiters_of Read f = f.rwait
waiters_of Write f = f.wwait

-- the fields with this lock bit and this many references
abbrev pub with_lock : Dir → Bool → ℕ → Word → Word
with_lock Read bit refs f = record f { rlock = bit; refs = refs }
with_lock Write bit refs f = record f { wlock = bit; refs = refs }

-- the fields with this many waiters
abbrev pub with_waiters : Dir → ℕ → Word → Word
with_waiters Read n f = record f { rwait = n }
with_waiters Write n f = record f { wwait = n }

-- ---- The table

-- a test, and why a step is refused where it holds
abbrev pub Guard : Type 0
Guard = Refused × Bool

-- the lock is taken and its waiters are at their limit, or it is free and the references are
abbrev pub is_full : Dir → Word → Bool
is_full d f = if lock_of d f then (waiters_of d f == MAX_WAITERS) else (f.refs == MAX_REFERENCES)

-- the tests of a step, in their order
abbrev pub guards : Word → Kind → List Guard
guards f kind.Incref =
    (why.Closed, f.closed) ∷ (why.Draining, f.drain) ∷ (why.TooMany, f.refs == MAX_REFERENCES) ∷ []
guards f kind.Decref = (why.Misuse, f.refs == 0) ∷ []
guards f (kind.Lock d) =
    (why.Closed, f.closed) ∷ (why.Draining, f.drain) ∷ (why.TooMany, is_full d f) ∷ []
guards f (kind.Unlock d) = (why.Misuse, not (lock_of d f)) ∷ (why.Misuse, f.refs == 0) ∷ []
guards f kind.Close = (why.Closed, f.closed) ∷ (why.TooMany, f.refs == MAX_REFERENCES) ∷ []
guards f kind.Drain = (why.Closed, f.closed) ∷ (why.Draining, f.drain) ∷ []

-- what a reference that is given back comes to
abbrev pub left : Word → After
left f = if f.closed && (f.refs == 1) then after.Last else after.Kept

-- what a step comes to where no test holds
abbrev pub comes_to : Word → Kind → After
comes_to f kind.Incref = after.Held
comes_to f kind.Decref = left f
comes_to f (kind.Lock d) = if lock_of d f then after.Queued else after.Held
comes_to f (kind.Unlock d) = if waiters_of d f == 0 then left f else after.Owes
comes_to f kind.Close = after.Closing f.rwait f.wwait
comes_to f kind.Drain = after.Drained f.rwait f.wwait

-- the fields once a step came to this
abbrev pub fields_after : Word → Kind → After → Word
fields_after f kind.Incref _ = record f { refs = f.refs + 1 }
fields_after f kind.Decref _ = record f { refs = f.refs - 1 }
fields_after f (kind.Lock d) after.Queued = with_waiters d (waiters_of d f + 1) f
fields_after f (kind.Lock d) _ = with_lock d true (f.refs + 1) f
fields_after f (kind.Unlock d) after.Owes =
    with_lock d false (f.refs - 1) (with_waiters d (waiters_of d f - 1) f)
fields_after f (kind.Unlock d) _ = with_lock d false (f.refs - 1) f
fields_after f kind.Close _ = record f { closed = true; refs = f.refs + 1; rwait = 0; wwait = 0 }
fields_after f kind.Drain _ = record f { drain = true; rwait = 0; wwait = 0 }

-- ---- The step

-- the refusal of the first test that holds
abbrev pub first_refusal : List Guard → Option Refused
first_refusal [] = None
first_refusal (g ∷ gs) = if g.1 then Some g.0 else first_refusal gs

-- a refusal where there is one, and else this
abbrev pub unless_refused : {A : Type 0} → Option Refused → A → Result A Refused
unless_refused (Some e) x = Err e
unless_refused None x = Ok x

-- the step on the fields
abbrev pub field_step : Word → Kind → Result (Word × After) Refused
field_step f k =
    unless_refused (first_refusal (guards f k)) (fields_after f k (comes_to f k), comes_to f k)

-- a result on the fields, as one on the word
abbrev pub packed_result : Result (Word × After) Refused → Result (ℕ × After) Refused
packed_result (Ok (f, after)) = Ok (packed f, after)
packed_result (Err e) = Err e

-- the fields of a packed word
abbrev pub fields_in : ℕ → Word
fields_in n =
    record {
      closed = closed_in n;
      rlock = not (lock_in Read n == 0);
      wlock = not (lock_in Write n == 0);
      refs = references_in n;
      rwait = waiters_in Read n;
      wwait = waiters_in Write n;
      drain = drain_in n;
    }

-- the step on the packed word
abbrev pub stepped_word : ℕ → Kind → Result (ℕ × After) Refused
stepped_word n k = packed_result (field_step (fields_in n) k)
