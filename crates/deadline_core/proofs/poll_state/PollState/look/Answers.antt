use Rattle.deadline_core.proofs.poll_state.PollState.look.Goals as goal

pub returns-in-Read-clause-answer : goal.returns-in-Read-clause-answer
returns-in-Read-clause-answer c calls stands =
    rw (c.in-Read.is, ← stands.closing, ← stands.read.expired, ← stands.read.ready) c.look.ensures.answer

pub returns-in-Write-clause-answer : goal.returns-in-Write-clause-answer
returns-in-Write-clause-answer c calls stands =
    rw (c.in-Write.is, ← stands.closing, ← stands.write.expired, ← stands.write.ready) c.look-in-Write.ensures.answer
