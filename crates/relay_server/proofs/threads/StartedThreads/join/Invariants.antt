use Rattle.std.proofs.Common.{◌≡◌, ◌+◌, List, length}
use Rattle.std.specs.Vec.Iter.{into_iter_items}
use Rattle.relay_server.specs.Threads.{IsJoinOf, LoopEnd}
use Rattle.relay_server.proofs.threads.StartedThreads.join.Given as goal

-- each thread that was joined has ended somehow
abbrev pub invariant-loop-one : goal.invariant-loop-one
invariant-loop-one g l =
    (ends : List LoopEnd)
    × (length ends + length (into_iter_items l.one-iterator) ≡ length l.fn.self.loops.items)
    × IsJoinOf l.joined ends
