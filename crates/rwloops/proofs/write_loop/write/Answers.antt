use Rattle.std.proofs.Common.{rules}
use Rattle.rwloops.proofs.TraceLemmas.{told_apart}
use Rattle.rwloops.proofs.write_loop.write.Goals as goal

pub returns-clause-trace : goal.returns-clause-trace
returns-clause-trace g c =
    let t = c.write_in_turn.ensures.turns in
    told_apart _ g.H.TryWrite.tells g.W.Waits.tells _ _ _ _ _ _ _ _ _ t
    c.new.ensures.half_value (search (rules, t.went.same_half))
    c.new.ensures.waits_value (search (rules, t.went.same_waits))
