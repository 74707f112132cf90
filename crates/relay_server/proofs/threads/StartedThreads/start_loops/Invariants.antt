use Rattle.std.proofs.Common.{◌≡◌, ◌+◌, ◌≤◌, length, vec_len, vec_capacity}
use Rattle.std.specs.Vec.Iter.{into_iter_items}
use Rattle.relay_server.proofs.threads.StartedThreads.start_loops.Given as goal

-- each loop is started once, and has its place
abbrev pub invariant-loop-parts : goal.invariant-loop-parts
invariant-loop-parts g l =
    (length l.self.loops.items + length (into_iter_items l.parts-iterator)
    ≡ length l.fn.self.loops.items + length l.fn.loops.items)
    × (vec_len l.self.loops + length (into_iter_items l.parts-iterator) ≤ vec_capacity l.self.loops)
