use Rattle.std.proofs.Common.{refl}
use Rattle.relay_facts.proofs.HealthLemmas.{anew, follows}
use Rattle.relay_facts.proofs.shared_health.word_anew.Goals as goal
use Rattle.target_pick.specs.declared.health.Health.{Health}

pub returns-clause-health : goal.returns-clause-health
returns-clause-health c =
    let made : Health = record { is_up = c.args.is_up; failures = c.new-health.result.failures; passes = c.new-health.result.passes } in
    let some = anew c.args.limits.now c.args.is_up made refl c.new-health.ensures.failures c.new-health.ensures.passes in
    (some.0, follows c.word_of.result c.args.limits.now made some.0 c.word_of.ensures.limits c.word_of.ensures.health some.1)
