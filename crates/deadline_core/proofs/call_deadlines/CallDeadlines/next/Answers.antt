use Rattle.std.proofs.Common.{◌≡◌, ◌∙◌, ap, refl}
use Rattle.base_types.specs.declared.direction.Dir.TheVariants.{Read, Write}
use Rattle.deadline_core.specs.CallHistory.{awaited}
use Rattle.deadline_core.specs.Moments.{earlier_of}
use Rattle.deadline_core.proofs.CallHistoryLemmas.{next_of}
use Rattle.deadline_core.proofs.call_deadlines.CallDeadlines.next.Goals as goal

pub returns : goal.returns
returns c = record {
  next = λ events history.
      let read : c.awaited.result ≡ awaited Read events =
      rw (c.awaited.ensures, history.read.is_under_way, history.read.deadline) refl in
      let write : c.awaited-2.result ≡ awaited Write events =
      rw (c.awaited-2.ensures, history.write.is_under_way, history.write.deadline) refl in
      next_of events c.earlier.result (c.earlier.ensures ∙ (ap (λ m. earlier_of m c.awaited-2.result) read
      ∙ ap (λ m. earlier_of (awaited Read events) m) write));
}
