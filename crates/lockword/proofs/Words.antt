-- The words and lemmas that several proofs cite, from one place.
pub use Rattle.atomic_table.proofs.Lists.{set_again, set_here}
pub use Rattle.atomic_table.specs.Table.{Allows, State, keeps, rest, step, stepped}
pub use Rattle.lockword.specs.Directions.{Guarded, IsHalf, half_home, half_of, semaphore, slot_of}
pub use Rattle.lockword.specs.History.{IsMade, Matches}
pub use Rattle.lockword.specs.LocalView.{deeds_of, newcomer, stakes_of, taken_by}
pub use Rattle.lockword.specs.Moment.{IsFound}
pub use Rattle.lockword.specs.SharedInvariant.{IsReached, Represents, SawRightly}
pub use Rattle.lockword.specs.Steps.{Carries, Shows, Told, asked_view, moved_view, saw_after, saw_drain_after, seen_in}
pub use Rattle.lockword.specs.declared.local_view.LocalView.{LocalView}
pub use Rattle.lockword.specs.declared.shared_rule.Half.{Half}
pub use Rattle.lockword.specs.declared.shared_rule.TheConstants.{DONE, STATE}
pub use Rattle.lockword_core.proofs.BalanceLemmas.{IsBalanced}
pub use Rattle.lockword_core.proofs.CountLemmas.{count-within}
pub use Rattle.lockword_core.proofs.InvariantPreserved.{balance_of}
pub use Rattle.lockword_core.proofs.ReplayLemmas.{always_consistent}
pub use Rattle.lockword_core.proofs.WordTable.{change_of}
pub use Rattle.lockword_core.proofs.WordRefines.{same_pair}
pub use Rattle.lockword_core.specs.FieldStep.{stepped_word}
pub use Rattle.lockword_core.specs.LockInvariant.{ChangesOneStake}
pub use Rattle.lockword_core.specs.LockState.{Census, Counted, LockState, census, empty, encoded, lasts, locks, number}
pub use Rattle.lockword_core.specs.LockState.{part, references, stake_of}
pub use Rattle.lockword_core.specs.Replay.{state_after}
pub use Rattle.lockword_core.specs.Signals.{signals_in, with_signals}
pub use Rattle.lockword_core.specs.Transition.{allows, lock_stake, outcome}
pub use Rattle.lockword_core.specs.Word.{bit}
pub use Rattle.lockword_core.specs.WordStep.{gained, op_of}
pub use Rattle.lockword_core.specs.declared.stake.Answer.{Answer}
pub use Rattle.lockword_core.specs.declared.stake.Event.{Event}
pub use Rattle.lockword_core.specs.declared.stake.Op.{Op}
pub use Rattle.lockword_core.specs.declared.stake.Stake.{Stake}
pub use Rattle.lockword_core.specs.declared.transition.After.{After}
pub use Rattle.lockword_core.specs.declared.transition.Kind.{Kind}
pub use Rattle.lockword_core.specs.declared.word.TheConstants.{CLOSED}
pub use Rattle.lockword_core.specs.declared.word.Word.{Word}
pub use Rattle.std.proofs.Common.{Bool, List, Ok, ap, arith, eqb, false, get_or, get_or-set_other, get_or-set_same}
pub use Rattle.std.proofs.Common.{length, length-set, refl, rules, set, subst, suc, sym, true, zero, ℕ}
pub use Rattle.std.proofs.lemmas.Bool.Decides.{nat_tests}
pub use Rattle.std.specs.Prelude.{is_some}
pub use Rattle.base_types.specs.declared.direction.Dir.{Dir}
pub use Rattle.base_types.specs.declared.direction.Dir.TheVariants.{Read, Write}
pub use lib.ListN.{get_elem?}
pub use mathlib.Core.Logic.{dite}
pub use mathlib.Core.Option.{Option, none, some}
pub use native.Mathlib.Decide.{ℕ_discrete}
pub use prog.Atomic.{either}
