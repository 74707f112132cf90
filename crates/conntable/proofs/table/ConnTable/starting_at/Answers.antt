use Rattle.std.specs.Vec.{vec_capacity}
use Rattle.conntable.proofs.StepLemmas.{empty}
use Rattle.conntable.proofs.table.ConnTable.starting_at.Goals as goal

pub invariant_of-result : goal.invariant_of-result
invariant_of-result g c = empty c.new.result c.new-2.result.entries c.new-3.result.items
    (vec_capacity c.new-3.result) c.args.first c.new.ensures.empty c.new-2.ensures.empty c.new-3.ensures.items c.requires
