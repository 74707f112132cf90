use Rattle.std.proofs.Common.{◌≡◌, arith, subst, sym, drop, None, inl, inr}
use Rattle.std.proofs.lemmas.List.{get_or_read}
use Rattle.std.specs.Int.{IsPowerOfTwo}
use Rattle.deadline_core.specs.PlaceAlarms.{IsFirst}
use Rattle.deadline_core.specs.Tournament.{moment_at, IsTournament}
use Rattle.deadline_core.proofs.TournamentLemmas.{root_is_first}
use Rattle.deadline_core.proofs.place_alarms.PlaceAlarms.first.Goals as goal

pub returns-else-self-eq0 : goal.returns-else-self-eq0
returns-else-self-eq0 g c =
    let room = c.self.inside.room in
    let tree = c.self.inside.tree.items in
    let is : IsTournament room tree = c.self.invariant.0 in
    let power : IsPowerOfTwo room =
    elim c.self.invariant.1 [ inl none ↦ absurd (c.if-self-eq0.false none) | inr power ↦ power ] in
    let read : c.index.result.now ≡ moment_at tree 1 =
    get_or_read tree 1 c.index.result.now (omega (arith, is.whole, c.if-self-eq0.false)) c.index.ensures None in
    subst (λ alarms. IsFirst alarms c.index.result.now) c.self.view_is
    (subst (λ m. IsFirst (drop room tree) m) (sym read) (root_is_first room tree is power))
