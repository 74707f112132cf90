use Rattle.descriptor_tests.proofs.TellingLemmas.{set_taken, set_refused}
use Rattle.descriptor_tests.proofs.tests.telling.set_up_to.Goals as goal

pub returns : goal.returns
returns g c =
    let run = c.set_deadline.ensures in
    record {
      taken = set_taken c.args.alarms.now.last c.args.at _ _ c.set_deadline.result run.set;
      refused = set_refused c.args.alarms.now.last c.args.at _ _ c.set_deadline.result run.set;
    }
