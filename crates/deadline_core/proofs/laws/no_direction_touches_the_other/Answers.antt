use Rattle.std.proofs.Common.{refl}
use Rattle.deadline_core.proofs.PollHistoryLemmas.{deadline_apart, expired_apart, refusal_apart}
use Rattle.deadline_core.proofs.laws.no_direction_touches_the_other.Goals as goal

pub returns : goal.returns
returns c = record {
  deadline = deadline_apart;
  expired = expired_apart;
  refusal = refusal_apart;
  tick =
      λ dir now calls. refl;
}
