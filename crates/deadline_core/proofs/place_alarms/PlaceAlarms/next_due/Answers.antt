use Rattle.std.proofs.Common.{inl, inr, arith}
use Rattle.std.specs.Int.{IsPowerOfTwo}
use Rattle.deadline_core.proofs.TournamentLemmas.{all_leaves}
use Rattle.deadline_core.proofs.place_alarms.PlaceAlarms.next_due.Goals as goal

pub due_leaf-requires-clause-leaves : goal.due_leaf-requires-clause-leaves
due_leaf-requires-clause-leaves g c =
    let room = c.self.inside.room in
    let power : IsPowerOfTwo room =
    elim c.self.invariant.1 [ inl none ↦ absurd (omega arith) | inr power ↦ power ] in
    all_leaves room power
