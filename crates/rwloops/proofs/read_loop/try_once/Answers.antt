use Rattle.std.proofs.Common.{◌≤◌, length, map, rules, refl}
use Rattle.std.proofs.lemmas.List.{take-append-le}
use Rattle.rwloops.specs.Outcome.{count_in}
use Rattle.rwloops.specs.ReadTrace.{read_try, read_outcome}
use Rattle.rwloops.proofs.read_loop.try_once.Goals as goal

pub returns-clause-turn : goal.returns-clause-turn
returns-clause-turn g c = λ first earlier stands. record {
  made = read_try c.try_read-outcome.new.buf c.try_read-outcome.result;
  told = c.try_read-outcome.ensures.told first;
  offered = record { room = search rules; count = search (rules, c.try_read-outcome.ensures.within) };
  holds =
      let fits : count_in c.try_read-outcome.result ≤ length c.try_read-outcome.new.buf =
      search (rules, c.try_read-outcome.ensures.within) in
      rw take-append-le refl;
  answer = c.feed.ensures.answer (map read_outcome earlier) stands;
  stands = c.feed.ensures.stands (map read_outcome earlier) stands;
}
