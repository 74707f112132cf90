use Rattle.std.proofs.Common.{refl}
use Rattle.lockword_core.proofs.MachineLemmas.{sound_new}
use Rattle.lockword_core.proofs.machine.Machine.new.Goals as goal

pub invariant_of-result : goal.invariant_of-result
invariant_of-result c = sound_new _ c.new.ensures.empty refl refl refl
