use Rattle.std.proofs.Common.{rules, refl}
use Rattle.base_types.specs.declared.direction.Dir.TheVariants.{Read}
use Rattle.fdmutex.proofs.close.close_mark.Goals as goal

pub returns-clause-no_reader_owed : goal.returns-clause-no_reader_owed
returns-clause-no_reader_owed g c = let kept = c.signal_all.ensures.other_way Read refl in search rules
