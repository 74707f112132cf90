-- Events in turn.
use Rattle.std.proofs.Common.{◌≡◌, ◌∙◌, sym, ap, refl, ℕ, zero, suc, ◌+◌, ◌-◌, ◌≤◌, arith, add-one, Result, Ok, Err}
use Rattle.std.specs.Prelude.{IfOk}
use Rattle.base_types.specs.declared.direction.Dir.TheVariants.{Read, Write}
use Rattle.lockword_core.specs.declared.stake.Op.{Op}
use Rattle.lockword_core.specs.declared.stake.Answer.{Answer}
use Rattle.lockword_core.specs.Signals.{signals_in}
use Rattle.lockword_core.specs.LockState.{LockState, census, encoded}
use Rattle.lockword_core.specs.Transition.{transition}
use Rattle.lockword_core.specs.Replay.{state_after}
use Rattle.lockword_script.specs.Script.{events_of}
use Rattle.lockword_script.specs.TraceOutput.{printed_line, printed_of_events}

state_after-suc : (state : LockState) (first count : ℕ) (asked : Op)
    → state_after state (events_of first (suc count) asked)
    ≡ (transition (state_after state (events_of first count asked)) (first + count) asked).0
state_after-suc state first zero asked =
    ap (λ (k : ℕ). (transition state k asked).0) (let e : first ≡ first + zero = omega arith in e)
state_after-suc state first (suc count) asked =
    let next : LockState = (transition state first asked).0 in
    state_after-suc next (first + 1) count asked
    ∙ ap (λ (k : ℕ). (transition (state_after next (events_of (first + 1) count asked)) k asked).0)
    (let e : first + 1 + count ≡ first + suc count = omega arith in e)

-- one event more
pub state_after_more : (state before next : LockState) (answer : Answer) (first count holder : ℕ) (asked : Op)
    → before ≡ state_after state (events_of first count asked) → holder ≡ first + count
    → (next, answer) ≡ transition before holder asked
    → next ≡ state_after state (events_of first (count + 1) asked)
state_after_more state before next answer first count holder asked e is s =
    ap (λ (p : LockState × Answer). p.0) s ∙ ap (λ (k : ℕ). (transition before k asked).0) is
    ∙ ap (λ (u : LockState). (transition u (first + count) asked).0) e
    ∙ sym (state_after-suc state first count asked) ∙ ap (λ (k : ℕ). state_after state (events_of first k asked))
    (sym (add-one count))

-- the last event, told of the state before all of them
pub last_event : {E : Type 0} (state before next : LockState) (answered : Result Answer E) (first count : ℕ)
    (asked : Op) → before ≡ state_after state (events_of first count asked)
    → IfOk answered (λ answer. (next, answer) ≡ transition before (first + count) asked)
    → IfOk answered (λ answer. (next, answer) ≡ transition (state_after state (events_of first count asked))
    (first + count) asked)
last_event state before next (Ok answer) first count asked e s =
    s ∙ ap (λ (u : LockState). transition u (first + count) asked) e
last_event state before next (Err x) first count asked e s = tt

-- all of the events
pub all_events : (state next : LockState) (answer : Answer) (first count : ℕ) (asked : Op) → 1 ≤ count
    → (next, answer) ≡ transition (state_after state (events_of first (count - 1) asked)) (first + (count - 1)) asked
    → next ≡ state_after state (events_of first count asked)
all_events state next answer first count asked some s =
    state_after_more state (state_after state (events_of first (count - 1) asked)) next answer first (count - 1)
    (first + (count - 1)) asked refl refl s
    ∙ ap (λ (k : ℕ). state_after state (events_of first k asked)) (let e : count - 1 + 1 ≡ count = omega arith in e)

-- their printed line
pub events_printed : (state next : LockState) (answer : Answer) (first count : ℕ) (asked : Op)
    → (next, answer) ≡ transition (state_after state (events_of first (count - 1) asked)) (first + (count - 1)) asked
    → printed_line answer (encoded (census next)) (signals_in Read next.signals)
    (signals_in Write next.signals) next.destroyed_by ≡ printed_of_events state first count asked
unfolding printed_of_events
events_printed state next answer first count asked s =
    ap (λ (p : LockState × Answer). printed_line p.1 (encoded (census p.0)) (signals_in Read p.0.signals)
    (signals_in Write p.0.signals) p.0.destroyed_by) s
