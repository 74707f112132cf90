use Rattle.std.proofs.Common.{rules, arith}
use Rattle.relay_core.specs.Accepting.{OfClosed, OfDrained, OneTooMany}
use Rattle.relay_core.proofs.AcceptTraceLemmas.{next_pause}
use Rattle.relay_core.proofs.accept_task.Accepting.after_fault.Goals as goal

-- the listener was closed
pub returns-in-Closed-clause-ended : goal.returns-in-Closed-clause-ended
returns-in-Closed-clause-ended c = rw c.in-Closed.is OfClosed

-- the listener was drained
pub returns-in-Draining-clause-ended : goal.returns-in-Draining-clause-ended
returns-in-Draining-clause-ended c = rw c.in-Draining.is OfDrained

-- one fault too many in a row
pub returns-then-self-eq-MAX_FAULTS_IN_A_ROW : goal.returns-then-self-eq-MAX_FAULTS_IN_A_ROW
returns-then-self-eq-MAX_FAULTS_IN_A_ROW c = record {
  stops = tt;
  pauses = tt;
  ended = OneTooMany _ (search rules, search rules)
      (omega (arith, c.self.view_is, c.if-self-eq-MAX_FAULTS_IN_A_ROW.true));
}

-- a fault more in a row, and its pause
pub invariant_of-self : goal.invariant_of-self
invariant_of-self c = (
  omega (arith, c.self.invariant.0, c.if-self-eq-MAX_FAULTS_IN_A_ROW.false),
  next_pause c.self.inside.faults c.self.inside.pause_ms _ c.self.invariant.1
      c.next_pause_ms-self-inside.ensures.first c.next_pause_ms-self-inside.ensures.doubled,
)

pub returns-else-self-eq-MAX_FAULTS_IN_A_ROW : goal.returns-else-self-eq-MAX_FAULTS_IN_A_ROW
returns-else-self-eq-MAX_FAULTS_IN_A_ROW c = record {
  stops = tt;
  pauses = record {
    may_pass = (search rules, search rules);
    row = omega (arith, c.self.view_is);
    borne = omega (arith, c.self.invariant.0, c.if-self-eq-MAX_FAULTS_IN_A_ROW.false);
    pause = next_pause c.self.inside.faults c.self.inside.pause_ms _ c.self.invariant.1
        c.next_pause_ms-self-inside.ensures.first c.next_pause_ms-self-inside.ensures.doubled;
  };
  ended = tt;
}
