use Rattle.deadline_core.proofs.call_deadlines.CallDeadlines.deadline.Goals as goal

pub returns-in-Write : goal.returns-in-Write
returns-in-Write c = record { said = λ events history. rw c.in-Write.is history.write.deadline }
