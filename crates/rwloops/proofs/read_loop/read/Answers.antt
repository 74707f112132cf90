use Rattle.std.proofs.Common.{rules}
use Rattle.rwloops.proofs.TraceLemmas.{told_apart}
use Rattle.rwloops.proofs.read_loop.read.Goals as goal

pub returns-clause-trace : goal.returns-clause-trace
returns-clause-trace g c =
    let t = c.read_in_turn.ensures.turns in
    told_apart _ g.H.TryRead.tells g.W.Waits.tells _ _ _ _ _ _ _ _ _ t
    c.new.ensures.half_value (search (rules, t.went.same_half))
    c.new.ensures.waits_value (search (rules, t.went.same_waits))
