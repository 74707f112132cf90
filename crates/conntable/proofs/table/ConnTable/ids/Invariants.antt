use Rattle.std.proofs.Common.{◌≡◌, ◌++◌}
use Rattle.conntable.specs.ConnTable.{ids_of}
use Rattle.conntable.proofs.table.ConnTable.ids.Given as goal

abbrev pub invariant-loop-id : goal.invariant-loop-id
invariant-loop-id g l = ids_of l.self.entries ≡ l.ids.items ++ l.id-iterator
