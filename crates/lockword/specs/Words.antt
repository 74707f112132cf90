-- The words of other crates that specifications cite, from one place.
pub use Rattle.lockword_core.specs.LockState.{empty}
pub use Rattle.lockword_core.specs.Replay.{state_after}
pub use Rattle.lockword_core.specs.Word.{IsWord, bit}
pub use Rattle.lockword_core.specs.declared.stake.Answer.{Answer}
pub use Rattle.lockword_core.specs.declared.stake.Event.{Event}
pub use Rattle.lockword_core.specs.declared.stake.Op.{Op}
pub use Rattle.lockword_core.specs.declared.stake.Stake.{Stake}
pub use Rattle.lockword_core.specs.declared.transition.After.{After}
pub use Rattle.lockword_core.specs.declared.word.Word.{Word}
pub use Rattle.std.specs.List.{All, Contains}
pub use Rattle.std.specs.Prelude.{Bool, List, count_by, false, get_or, map, slice_index, sum_by, true, ℕ}
pub use Rattle.base_types.specs.declared.direction.Dir.{Dir}
pub use Rattle.base_types.specs.declared.direction.Dir.TheVariants.{Read, Write}
pub use lib.ListN.{get_elem?}
pub use mathlib.Core.Option.{some}
