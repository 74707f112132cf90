use Rattle.std.proofs.Common.{refl, rules}
use Rattle.lockword.proofs.HeardSteps.{goes_on_on}
use Rattle.fd_descriptor.proofs.HalfLemmas.{found_so}
use Rattle.fd_descriptor.proofs.half_use.with_half.Goals as goal

pub returns-clause-did : goal.returns-clause-did
returns-clause-did g c = (_, _, record { shown = _; shows = refl; left = _; met = c.act-answer.ensures; leaves = refl })

pub returns-clause-heard : goal.returns-clause-heard
returns-clause-heard g c = search (rules, goes_on_on _ _ _ c.in-Ok.ensures.heard c.give_back.ensures.heard)

pub returns-clause-used : goal.returns-clause-used
returns-clause-used g c =
    record {
      first = c.half.result.now;
      last = _;
      found = found_so _ g.D.Guards.stored _ _ _ _ (search rules) c.half.ensures.value c.in-Ok.ensures.half;
      did = record { shown = _; shows = refl; left = _; met = c.act-answer.ensures; leaves = refl };
      left = c.give_back.ensures.home;
    }
