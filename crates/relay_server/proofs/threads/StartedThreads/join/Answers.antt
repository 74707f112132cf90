use Rattle.std.proofs.Common.{◌∷◌, ◌++◌, []}
use Rattle.std.specs.Vec.Iter.{into_iter_items}
use Rattle.relay_server.proofs.JoinLemmas.{joined_each, joined_more}
use Rattle.relay_server.proofs.threads.StartedThreads.join.Goals as goal

pub loop-one-preserved : goal.loop-one-preserved
loop-one-preserved g c =
    let old = c.loop-one.invariant in
    let one = c.join.result in (
      old.0 ++ one ∷ [],
      joined_each old.0 one (into_iter_items c.loop-one.one-iterator) (into_iter_items c.next.new.self) c.in-Some.one _
          c.in-Some.ensures.steps.0 old.1,
      joined_more c.loop-one.joined c.and-joined.result old.0 one c.and-joined.ensures.turned
          c.and-joined.ensures.totals old.2,
    )
