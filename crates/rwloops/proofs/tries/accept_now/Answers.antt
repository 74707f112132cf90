use Rattle.std.proofs.Common.{rules}
use Rattle.rwloops.proofs.TryNowLemmas.{told_half}
use Rattle.rwloops.proofs.tries.accept_now.Goals as goal

pub returns : goal.returns
returns g c =
    let t = c.accept_tries.ensures in
    record {
      trace = told_half g.H.TryAccept.tells _ _ _ _ _ _ _ _ t c.new.ensures.half_value (search (rules, t.went.same_half));
    }
