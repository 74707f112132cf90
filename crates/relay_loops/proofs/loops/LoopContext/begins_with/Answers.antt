use Rattle.std.specs.Arc.{arc_value}
use Rattle.relay_loops.proofs.SetUpLemmas.{trial_for}
use Rattle.relay_loops.proofs.loops.LoopContext.begins_with.Goals as goal

-- it is dialled for the client whose facts these are
pub returns-in-Some-clause-target : goal.returns-in-Some-clause-target
returns-in-Some-clause-target g c =
    trial_for c.args.acceptance.now (arc_value c.in-Some.facts).acceptance c.args.target c.in-Some.ensures.same c.requires
