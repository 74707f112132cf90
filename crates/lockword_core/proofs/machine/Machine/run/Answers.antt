use Rattle.std.proofs.Common.{◌≡◌, ◌∙◌, ◌+◌}
use Rattle.lockword_core.proofs.Words.{List, sym, subst, take, Event, state_after, LockState, IsConsistent}
use Rattle.lockword_core.proofs.ReplayLemmas.{state_next, answers_next, stays_consistent_after}
use Rattle.lockword_core.proofs.machine.Machine.run.Goals as goal

-- each state on the way is consistent
along : (s now : LockState) (events : List Event) → IsConsistent s → now ≡ state_after s events → IsConsistent now
along s now events good is = subst (λ (u : LockState). IsConsistent u) (sym is) (stays_consistent_after s events good)

pub returns-in-Err-push-clause-stopped : goal.returns-in-Err-push-clause-stopped
returns-in-Err-push-clause-stopped c =
    state_next _ c.loop-done.self c.step.new.self _ _ _ _ c.loop-done-test.true c.loop-done.invariant.state
    c.in-Ok.ensures.ok

pub loop-done-preserved : goal.loop-done-preserved
loop-done-preserved c =
    record {
      state = state_next _ c.loop-done.self c.step.new.self _ _ _ _ c.loop-done-test.true c.loop-done.invariant.state
          c.in-Ok.ensures.ok;
      answers = c.in-Ok-push.ensures.items
          ∙ answers_next _ c.loop-done.self c.step.new.self _ _ _ _ _ c.loop-done-test.true c.loop-done.invariant.state
          c.loop-done.invariant.answers c.in-Ok.ensures.ok;
    }

pub returns-in-Err-clause-consistent : goal.returns-in-Err-clause-consistent
returns-in-Err-clause-consistent c =
    along _ c.step.new.self (take c.loop-done.done c.args.events.now)
    (subst (λ (s : LockState). IsConsistent s) c.self.view_is c.self.invariant.consistent)
    (c.in-Err.ensures.err ∙ c.loop-done.invariant.state)

pub returns-in-Err-push-clause-consistent : goal.returns-in-Err-push-clause-consistent
returns-in-Err-push-clause-consistent c =
    along _ c.step.new.self (take (c.loop-done.done + 1) c.args.events.now)
    (subst (λ (s : LockState). IsConsistent s) c.self.view_is c.self.invariant.consistent)
    (returns-in-Err-push-clause-stopped c)

pub returns-clause-consistent : goal.returns-clause-consistent
returns-clause-consistent c = along _ c.loop-done.self (take c.loop-done.done c.args.events.now)
    (subst (λ (s : LockState). IsConsistent s) c.self.view_is c.self.invariant.consistent) c.loop-done.invariant.state
