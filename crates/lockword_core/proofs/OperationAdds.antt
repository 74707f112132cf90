-- What one operation adds.
use Rattle.std.proofs.Common.{◌≡◌, ◌+◌, ◌-◌}
use Rattle.std.specs.Prelude.{◌==◌, ◌&&◌, if◌then◌else◌}
use Rattle.lockword_core.proofs.Words.{ℕ, Bool, true, false, refl, ap, subst, arith, Dir, Read, Write, Stake, Op}
use Rattle.lockword_core.proofs.Words.{Answer, MAX_REFERENCES, MAX_WAITERS, MAX_SIGNALS, bit, signals_in, Census}
use Rattle.lockword_core.proofs.Words.{references, locks, queued, part, number, pending, Change, nothing, closes}
use Rattle.lockword_core.proofs.Words.{drains}
use Rattle.lockword_core.proofs.Words.{adds_signal, takes_signal, Outcome, refused, moved, allows, outcome}
use Rattle.lockword_core.proofs.Words.{allowed_outcome, drop_outcome, stake_after_signal, drains_stake, lock_stake}
use Rattle.lockword_core.specs.declared.stake.Stake.TheVariants as stake
use Rattle.lockword_core.specs.declared.stake.Op.TheVariants as op
use Rattle.lockword_core.specs.declared.stake.Answer.TheVariants as answer
use Rattle.lockword_core.specs.declared.signals.Signals.{Signals}
use Rattle.lockword_core.specs.Signals.{with_signals}
use Rattle.lockword_core.specs.OperationCounts.{is_taking, is_returning, is_signal, is_wake, is_close, is_drain}
use Rattle.lockword_core.specs.OperationCounts.{is_destroy, is_refusal}
use Rattle.lockword_core.proofs.FieldSteps.{other_numbers}
use Rattle.lockword_core.proofs.EndCounts.{is_destroying}

-- ---- What one operation adds

-- what a stake has of what was asked for
abbrev had : Stake → ℕ
had own = part references own + part (queued Read) own + part (queued Write) own

abbrev pub closed_after : Bool → Change → Bool
closed_after b closes = true
closed_after b _ = b

abbrev pub draining_after : Bool → Change → Bool
draining_after b drains = true
draining_after b _ = b

abbrev pub signals_after : Signals → Change → Signals
signals_after s (adds_signal d) = with_signals d (signals_in d s + 1) s
signals_after s (takes_signal d) = with_signals d (signals_in d s - 1) s
signals_after s _ = s

pub record Adds (c : Census) (own : Stake) (o : Op) (new : Stake) (change : Change) : Type 0 where
  pub taken : bit (is_taking o) + had own ≡ had new + bit (is_returning o)
  pub signalled : (d : Dir) → bit (is_signal d o) + signals_in d c.signals
      ≡ signals_in d (signals_after c.signals change) + bit (is_wake d o)
  pub closed : bit (is_close o) + bit c.closed ≡ bit (closed_after c.closed change)
  pub drained : bit (is_drain o) + bit c.draining ≡ bit (draining_after c.draining change)
  pub destroyed : is_destroy o ≡ is_destroying change

-- a refusal is one of the answers that refuse, and no other answer is
abbrev pub Adding : Census → Stake → Op → Outcome → Type 0
Adding c own o (refused a) = is_refusal a ≡ true
Adding c own o (moved a new change) = (is_refusal a ≡ false) × Adds c own o new change

by_test : (c : Census) (own : Stake) (o : Op) (b : Bool) (x y : Outcome) → (b ≡ true → Adding c own o x)
    → (b ≡ false → Adding c own o y) → Adding c own o (if b then x else y)
by_test c own o true x y f g = f refl
by_test c own o false x y f g = g refl

-- an operation that leaves flags, mark and signals as they are
plain : (c : Census) (own : Stake) (o : Op) (new : Stake) → bit (is_taking o) + had own ≡ had new + bit (is_returning o)
    → ((d : Dir) → is_signal d o ≡ false) → ((d : Dir) → is_wake d o ≡ false) → is_close o ≡ false
    → is_drain o ≡ false → is_destroy o ≡ false
    → Adds c own o new nothing
plain c own o new taken no_signal no_wake no_close no_drain no_destroy =
    record {
      taken = taken;
      signalled = λ d. let s = ap bit (no_signal d) in let w = ap bit (no_wake d) in omega arith;
      closed = let n = ap bit no_close in omega arith;
      drained = let n = ap bit no_drain in omega arith;
      destroyed = no_destroy;
    }

incref_adds : (c : Census) → Adding c stake.Free op.Incref (allowed_outcome c stake.Free op.Incref)
incref_adds c =
    by_test c stake.Free op.Incref c.closed _ _ (λ _. refl)
    (λ _. by_test c stake.Free op.Incref c.draining _ _ (λ _. refl)
    (λ _. by_test c stake.Free op.Incref (number references c == MAX_REFERENCES) _ _ (λ _. refl)
    (λ _. (refl, plain c stake.Free op.Incref stake.Ref (omega arith) (λ d. refl) (λ d. refl) refl refl refl))))

close_adds : (c : Census) → Adding c stake.Free op.Close (allowed_outcome c stake.Free op.Close)
close_adds c =
    by_test c stake.Free op.Close c.closed _ _ (λ _. refl)
    (λ unshut. by_test c stake.Free op.Close (number references c == MAX_REFERENCES) _ _ (λ _. refl)
    (λ _. (
      refl,
      record {
        taken = omega arith;
        signalled = λ d. omega arith;
        closed = let none = ap bit unshut in
            omega arith;
        drained = omega arith;
        destroyed = refl;
      },
    )))

-- a holder that drained has nothing of what was asked for
had-drains : (r w : ℕ) → had (drains_stake r w) ≡ 0
had-drains r w = by (r == 0 && w == 0)
  where
    by : (t : Bool) → had (if t then stake.Free else stake.Drains r w) ≡ 0
    by true = refl
    by false = refl

drain_adds : (c : Census) → Adding c stake.Free op.Drain (allowed_outcome c stake.Free op.Drain)
drain_adds c =
    by_test c stake.Free op.Drain c.closed _ _ (λ _. refl)
    (λ _. by_test c stake.Free op.Drain c.draining _ _ (λ _. refl)
    (λ undrained. (
      refl,
      record {
        taken = let nothing_had = had-drains (pending Read c) (pending Write c) in omega arith;
        signalled = λ d. omega arith;
        closed = omega arith;
        drained = let none = ap bit undrained in
            omega arith;
        destroyed = refl;
      },
    )))

lock_adds : (d : Dir) (c : Census) → Adding c stake.Free (op.Lock d) (allowed_outcome c stake.Free (op.Lock d))
lock_adds d c =
    by_test c stake.Free (op.Lock d) c.closed _ _ (λ _. refl)
    (λ _. by_test c stake.Free (op.Lock d) c.draining _ _ (λ _. refl)
    (λ _. by_test c stake.Free (op.Lock d) (number (locks d) c == 0) _ _
    (λ _. by_test c stake.Free (op.Lock d) (number references c == MAX_REFERENCES) _ _ (λ _. refl)
    (λ _. (refl, plain c stake.Free (op.Lock d) (lock_stake d) (held d) (λ d. refl) (λ d. refl) refl refl refl)))
    (λ _. by_test c stake.Free (op.Lock d) (pending d c == MAX_WAITERS) _ _ (λ _. refl)
    (λ _. (refl, plain c stake.Free (op.Lock d) (stake.Waits d) (waits d) (λ d. refl) (λ d. refl) refl refl refl)))))
  where
    held : (d : Dir) → 1 + had stake.Free ≡ had (lock_stake d) + 0
    held Read = omega arith
    held Write = omega arith

    waits : (d : Dir) → 1 + had stake.Free ≡ had (stake.Waits d) + 0
    waits Read = omega arith
    waits Write = omega arith

-- a reference that is given back by the holder of this stake
drop_adds : (c : Census) (own : Stake) (o : Op) → is_taking o ≡ false → is_returning o ≡ true → had own ≡ 1
    → ((d : Dir) → is_signal d o ≡ false) → ((d : Dir) → is_wake d o ≡ false) → is_close o ≡ false
    → is_drain o ≡ false → is_destroy o ≡ false
    → Adding c own o (drop_outcome c)
drop_adds c own o not_taking returning one no_signal no_wake no_close no_drain no_destroy =
    let t = ap bit not_taking in
    let r = ap bit returning in
    by_test c own o (c.closed && (number references c == 1)) _ _
    (λ _. (refl, plain c own o stake.Last (omega arith) no_signal no_wake no_close no_drain no_destroy))
    (λ _. (refl, plain c own o stake.Free (omega arith) no_signal no_wake no_close no_drain no_destroy))

unlock_adds : (d : Dir) (c : Census)
    → Adding c (lock_stake d) (op.Unlock d) (allowed_outcome c (lock_stake d) (op.Unlock d))
unlock_adds d c =
    by_test c (lock_stake d) (op.Unlock d) (pending d c == 0) _ _
    (λ _. drop_adds c (lock_stake d) (op.Unlock d) refl refl (held d) (λ d. refl) (λ d. refl) refl refl refl)
    (λ _. (
      refl,
      plain c (lock_stake d) (op.Unlock d) (stake.Owes d) (let one = held d in omega arith) (λ d. refl)
          (λ d. refl) refl refl refl,
    ))
  where
    held : (d : Dir) → had (lock_stake d) ≡ 1
    held Read = refl
    held Write = refl

-- a signal that is given
signal_adds : (d : Dir) (c : Census) (own : Stake) → had (stake_after_signal d own) ≡ had own
    → Adding c own (op.Signal d) (allowed_outcome c own (op.Signal d))
signal_adds d c own same =
    by_test c own (op.Signal d) (signals_in d c.signals == MAX_SIGNALS) _ _ (λ _. refl)
    (λ _. (
      refl,
      record {
        taken = omega arith;
        signalled = more d;
        closed = omega arith;
        drained = omega arith;
        destroyed = refl;
      },
    ))
  where
    more : (d e : Dir) → bit (is_signal e (op.Signal d)) + signals_in e c.signals
        ≡ signals_in e (signals_after c.signals (adds_signal d)) + 0
    more Read Read = omega arith
    more Read Write = omega arith
    more Write Read = omega arith
    more Write Write = omega arith

-- a signal that is taken
wake_adds : (d : Dir) (c : Census)
    → Adding c (stake.Waits d) (op.Wake d) (allowed_outcome c (stake.Waits d) (op.Wake d))
wake_adds d c =
    by_test c (stake.Waits d) (op.Wake d) (signals_in d c.signals == 0) _ _ (λ _. refl)
    (λ some. (
      refl,
      record {
        taken = left d;
        signalled = less d (other_numbers _ _ some);
        closed = omega arith;
        drained = omega arith;
        destroyed = refl;
      },
    ))
  where
    left : (d : Dir) → 0 + had (stake.Waits d) ≡ had stake.Free + 1
    left Read = omega arith
    left Write = omega arith

    less : (d : Dir) → (signals_in d c.signals ≡ 0 → ⊥) → (e : Dir)
        → 0 + signals_in e c.signals ≡ signals_in e (signals_after c.signals (takes_signal d))
        + bit (is_wake e (op.Wake d))
    less Read some Read = omega arith
    less Read some Write = omega arith
    less Write some Read = omega arith
    less Write some Write = omega arith

allowed_adds : (c : Census) (own : Stake) (o : Op) → allows own o ≡ true → Adding c own o (allowed_outcome c own o)
allowed_adds c stake.Free op.Incref may = incref_adds c
allowed_adds c stake.Free op.Close may = close_adds c
allowed_adds c stake.Free op.Drain may = drain_adds c
allowed_adds c stake.Free (op.Lock d) may = lock_adds d c
allowed_adds c stake.Ref op.Decref may =
    drop_adds c stake.Ref op.Decref refl refl refl (λ d. refl) (λ d. refl) refl refl refl
allowed_adds c (stake.Closing r w) op.Decref may =
    drop_adds c (stake.Closing r w) op.Decref refl refl refl (λ d. refl) (λ d. refl) refl refl refl
allowed_adds c stake.Read (op.Unlock Read) may = unlock_adds Read c
allowed_adds c stake.Write (op.Unlock Write) may = unlock_adds Write c
allowed_adds c (stake.Owes e) (op.Signal Read) may = signal_adds Read c (stake.Owes e) refl
allowed_adds c (stake.Owes e) (op.Signal Write) may = signal_adds Write c (stake.Owes e) refl
allowed_adds c (stake.Closing r w) (op.Signal Read) may = signal_adds Read c (stake.Closing r w) refl
allowed_adds c (stake.Closing r w) (op.Signal Write) may = signal_adds Write c (stake.Closing r w) refl
allowed_adds c (stake.Drains r w) (op.Signal Read) may =
    signal_adds Read c (stake.Drains r w) (had-drains (r - 1) w)
allowed_adds c (stake.Drains r w) (op.Signal Write) may =
    signal_adds Write c (stake.Drains r w) (had-drains r (w - 1))
allowed_adds c (stake.Waits Read) (op.Wake Read) may = wake_adds Read c
allowed_adds c (stake.Waits Write) (op.Wake Write) may = wake_adds Write c
allowed_adds c stake.Last op.Destroy may = (
  refl,
  record {
    taken = omega arith;
    signalled = λ d. omega arith;
    closed = omega arith;
    drained = omega arith;
    destroyed = refl;
  },
)
allowed_adds c stake.Read (op.Unlock Write) may = absurd (cc)
allowed_adds c stake.Write (op.Unlock Read) may = absurd (cc)
allowed_adds c (stake.Waits Read) (op.Wake Write) may = absurd (cc)
allowed_adds c (stake.Waits Write) (op.Wake Read) may = absurd (cc)
allowed_adds c _ op.Incref may = absurd (cc)
allowed_adds c _ op.Decref may = absurd (cc)
allowed_adds c _ (op.Lock d) may = absurd (cc)
allowed_adds c _ (op.Unlock d) may = absurd (cc)
allowed_adds c _ (op.Signal d) may = absurd (cc)
allowed_adds c _ (op.Wake d) may = absurd (cc)
allowed_adds c _ op.Close may = absurd (cc)
allowed_adds c _ op.Drain may = absurd (cc)
allowed_adds c _ op.Destroy may = absurd (cc)

pub adds : (c : Census) (own : Stake) (o : Op) → Adding c own o (outcome c own o)
adds c own o = by (allows own o) refl
  where
    by : (t : Bool) → allows own o ≡ t → Adding c own o (if t then allowed_outcome c own o else refused answer.Misuse)
    by true may = allowed_adds c own o may
    by false no_use = refl

-- an operation that moves its holder is not refused
pub move_is_no_refusal : (c : Census) (own : Stake) (o : Op) (a : Answer) (new : Stake) (change : Change)
    → outcome c own o ≡ moved a new change → is_refusal a ≡ false
move_is_no_refusal c own o a new change is = (subst (λ (x : Outcome). Adding c own o x) is (adds c own o)).0
