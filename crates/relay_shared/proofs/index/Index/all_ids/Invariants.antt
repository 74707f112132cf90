use Rattle.std.proofs.Common.{◌≡◌, ◌++◌}
use Rattle.relay_shared.specs.Index.{ids_in}
use Rattle.relay_shared.proofs.index.Index.all_ids.Given as goal

abbrev pub invariant-loop-id : goal.invariant-loop-id
invariant-loop-id g l = l.ids.items ++ ids_in l.id-iterator ≡ ids_in l.self.entries
