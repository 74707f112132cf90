use Rattle.deadline_core.proofs.call_deadlines.CallDeadlines.has_passed.Goals as goal

pub returns-in-Write : goal.returns-in-Write
returns-in-Write c = record {
  passed = λ events history. rw (c.in-Write.is, ← history.write.deadline) c.has_passed-in-Write.ensures;
}
