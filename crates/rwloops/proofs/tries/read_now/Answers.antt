use Rattle.std.proofs.Common.{rules}
use Rattle.rwloops.proofs.TryNowLemmas.{told_half}
use Rattle.rwloops.proofs.tries.read_now.Goals as goal

pub returns-clause-trace : goal.returns-clause-trace
returns-clause-trace g c =
    let t = c.read_tries.ensures.tried in
    told_half g.H.TryRead.tells _ _ _ _ _ _ _ _ t c.new.ensures.half_value (search (rules, t.went.same_half))
