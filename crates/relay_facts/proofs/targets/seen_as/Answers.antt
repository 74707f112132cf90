use Rattle.std.proofs.Common.{refl}
use Rattle.relay_facts.proofs.targets.seen_as.Goals as goal

pub returns : goal.returns
returns c = record {
  order = c.get-order.result;
  is_healthy = c.is_seen_healthy-is_healthy.result;
  unchecked = c.is_seen_healthy-is_healthy.ensures;
  weight = refl;
  is_backup = refl;
  is_up = c.is_up_by.ensures;
  is_drained = c.is_drained_by.ensures;
  was_tried = refl;
}
