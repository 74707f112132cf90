use Rattle.deadline_core.proofs.poll_state.PollState.prepare.Goals as goal

pub returns-in-Write-clause-answer : goal.returns-in-Write-clause-answer
returns-in-Write-clause-answer c calls stands =
    rw (c.in-Write.is, ← stands.closing, ← stands.write.expired) c.prepare-in-Write.ensures.answer
