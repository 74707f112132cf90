use Rattle.readiness.proofs.tasks.Tasks.give_way.Goals as goal

pub returns-then-not-mark-clause-others : goal.returns-then-not-mark-clause-others
returns-then-not-mark-clause-others g c =
    λ other came. c.list.ensures.others other (c.mark.ensures.come other came)
