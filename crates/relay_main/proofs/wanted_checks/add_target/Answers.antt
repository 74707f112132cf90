use Rattle.relay_main.proofs.MoreLemmas.{has_one_put}
use Rattle.relay_main.proofs.wanted_checks.add_target.Goals as goal

pub returns-in-Some : goal.returns-in-Some
returns-in-Some c =
    has_one_put _ _ _ _ c.in-Some.checked c.push.result c.ok.result c.in_ok-found.ensures c.in-Some.is
    c.push.ensures.items c.ok.ensures.value
