use Rattle.std.proofs.Common.{ap, ◌∙◌}
use Rattle.std.specs.FinMap.{remove}
use Rattle.deadline_core.specs.DueOrder.{Slot}
use Rattle.deadline_core.proofs.TimerOrderLemmas.{armed_taken}
use Rattle.deadline_core.proofs.timers.Timers.disarm.Goals as goal

pub returns : goal.returns
returns g c =
    let slot : Slot = (c.args.key, c.args.dir) in
    record {
      disarmed = armed_taken c.self.inside.moments c.take_out.new.moments slot c.take_out.ensures ∙
          ap (λ m. remove m slot) c.self.view_is;
    }
