use Rattle.deadline_core.proofs.call_deadlines.CallDeadlines.is_under_way.Goals as goal

pub returns-in-Write : goal.returns-in-Write
returns-in-Write c = record { moved = λ events history. rw c.in-Write.is history.write.is_under_way }
