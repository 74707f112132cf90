use Rattle.std.proofs.Common.{rules}
use Rattle.rwloops.proofs.TraceLemmas.{told_apart}
use Rattle.rwloops.proofs.accept_loop.accept.Goals as goal

pub returns : goal.returns
returns g c =
    let t = c.accept_in_turn.ensures.turns in
    record {
      trace = told_apart _ g.H.TryAccept.tells g.W.Waits.tells _ _ _ _ _ _ _ _ _ t
          c.new.ensures.half_value (search (rules, t.went.same_half))
          c.new.ensures.waits_value (search (rules, t.went.same_waits));
    }
