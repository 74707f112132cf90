-- The words of other crates that specifications and contracts cite, from one place.
pub use Rattle.hex.specs.Hex.{encode_lower}
pub use Rattle.lockword_core.specs.LockState.{LockState, empty, census, encoded}
pub use Rattle.lockword_core.specs.Replay.{state_after}
pub use Rattle.lockword_core.specs.Signals.{signals_in}
pub use Rattle.lockword_core.specs.Transition.{transition}
pub use Rattle.lockword_core.specs.declared.stake.Answer.{Answer}
pub use Rattle.lockword_core.specs.declared.stake.Op.{Op}
pub use Rattle.std.specs.Fmt.{decimal}
pub use Rattle.std.specs.Int.{w64, to_be_bytes}
pub use Rattle.std.specs.Io.KnownBytes.{Appends, IsAtEnd}
pub use Rattle.std.specs.Prelude.{ℕ, List, [], Option, Some}
pub use Rattle.std.specs.Prelude.{None, codes, IfOk, OnOk, OnErr, IfSome, IfNone, length}
pub use Rattle.std.specs.Prelude.{true, IfErr, take}
pub use Rattle.stream_base.specs.Attempt.{WriteStopped}
pub use Rattle.stream_base.specs.Lines.{lines_of}
pub use Rattle.base_types.specs.declared.direction.Dir.TheVariants.{Read, Write}
