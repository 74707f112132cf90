-- The words and lemmas that several proofs cite, from one place.
pub use Rattle.lockword_core.specs.FieldStep.{field_step, fields_after, fields_in, lock_of, stepped_word, waiters_of}
pub use Rattle.lockword_core.specs.LockInvariant.{ChangesOneStake, IsConsistent, IsConsistentCensus, IsCounted}
pub use Rattle.lockword_core.specs.LockState.{Census, LockState, census, closers, drainers, empty, encoded, lasts}
pub use Rattle.lockword_core.specs.LockState.{locks}
pub use Rattle.lockword_core.specs.LockState.{number, owed, part, pending, queued, references, stake_of}
pub use Rattle.lockword_core.specs.Replay.{answers_of, state_after}
pub use Rattle.lockword_core.specs.Signals.{signals_in}
pub use Rattle.lockword_core.specs.Transition.{Change, Outcome, adds_signal, allowed_outcome, allows, carried_out}
pub use Rattle.lockword_core.specs.Transition.{changed, closes, destroys, drains, drains_stake, drop_outcome}
pub use Rattle.lockword_core.specs.Transition.{lock_stake, moved}
pub use Rattle.lockword_core.specs.Transition.{nothing, outcome, refused, stake_after_signal, takes_signal, transition}
pub use Rattle.lockword_core.specs.Transition.{with_change, with_stake}
pub use Rattle.lockword_core.specs.Word.{IsWord, bit, packed, waiters_in}
pub use Rattle.lockword_core.specs.WordStep.{Tells, gained, op_of}
pub use Rattle.lockword_core.specs.declared.signals.TheConstants.{MAX_SIGNALS}
pub use Rattle.lockword_core.specs.declared.stake.Answer.{Answer}
pub use Rattle.lockword_core.specs.declared.stake.Event.{Event}
pub use Rattle.lockword_core.specs.declared.stake.Op.{Op}
pub use Rattle.lockword_core.specs.declared.stake.Stake.{Stake}
pub use Rattle.lockword_core.specs.declared.transition.After.{After}
pub use Rattle.lockword_core.specs.declared.transition.Kind.{Kind}
pub use Rattle.lockword_core.specs.declared.transition.Refused.{Refused}
pub use Rattle.lockword_core.specs.declared.word.TheConstants.{CLOSED, DRAIN, MAX_REFERENCES, MAX_WAITERS}
pub use Rattle.lockword_core.specs.declared.word.Word.{Word}
pub use Rattle.std.proofs.Common.{Bool, List, None, Ok, Option, Result, Some, ap, arith, false, get_or, inl, inr, refl}
pub use Rattle.std.proofs.Common.{subst, sym, take, true, ℕ}
pub use Rattle.std.proofs.lemmas.Bool.Decides.{nat_tests}
pub use Rattle.std.specs.BTreeMap.{insert_entry, is_at}
unfoldable pub use Rattle.std.specs.List.Sorted.{IsStrictlySortedBy}
pub use Rattle.std.specs.Map.{keys_of, lookup, values_of}
pub use Rattle.std.specs.Ordering.{nat_cmp}
pub use Rattle.std.specs.Prelude.{Err, cond, is_some, not, unwrap_or}
pub use Rattle.std.specs.declared.cmp.Ordering.TheVariants.{Less}
pub use Rattle.base_types.specs.declared.direction.Dir.{Dir}
pub use Rattle.base_types.specs.declared.direction.Dir.TheVariants.{Read, Write}
