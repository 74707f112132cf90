-- The words and lemmas that several proofs cite, from one place.
pub use Rattle.lockword_core.specs.LockState.{LockState, empty}
pub use Rattle.lockword_core.specs.Replay.{state_after}
pub use Rattle.lockword_core.specs.declared.stake.Op.{Op}
pub use Rattle.lockword_script.specs.Progress.{Progress, IsReady, Advances, StopsAt, LeadsOn, LeadsToBadLine}
pub use Rattle.lockword_script.specs.Progress.{LeadsPartly, LeadsToEnd, spent, AdvancesPartly, start}
pub use Rattle.lockword_script.specs.Script.{Says, IsBadLine, events_of}
pub use Rattle.lockword_script.specs.TraceOutcome.{IsTextOfFirstLines, IsTextOfWholeLines, TextBegins}
pub use Rattle.lockword_script.specs.TraceOutput.{Prints, whole, good, bad, IsTextOf}
unfoldable pub use Rattle.lockword_script.specs.TraceOutput.{printed_of_events, printed_of_bad_line}
pub use Rattle.lockword_script.specs.declared.outcome.End.{End}
pub use Rattle.lockword_script.specs.declared.outcome.End.TheVariants.{Whole, BadLine}
pub use Rattle.lockword_script.specs.declared.script.TheConstants.{MAX_LINES, MAX_LINE_BYTES}
pub use Rattle.std.proofs.Common.{◌∙◌, sym, ap, refl, subst, ℕ, List, []}
pub use Rattle.std.proofs.Common.{length, arith, inl, inr, append_assoc, length-append, zero, suc, take, Option}
pub use Rattle.std.proofs.Common.{None, Some, Bool, true, false, drop, Result, Ok, Err, length-take}
pub use Rattle.std.proofs.lemmas.Bool.{cases_lt, cases_eq}
pub use Rattle.std.proofs.lemmas.Fmt.{decimal_injective, length-decimal-le}
pub use Rattle.std.proofs.lemmas.List.{append-nil, take-append-drop}
pub use Rattle.std.proofs.lemmas.Slice.Eq.{bytes_eq-Decides}
pub use Rattle.std.specs.Fmt.{decimal}
pub use Rattle.std.specs.Io.KnownBytes.{Appends, Consumes, Keeps, IsAtEnd}
pub use Rattle.std.specs.Prelude.{codes, IfSome, IfNone, IfOk, OnErr}
pub use Rattle.std.specs.Str.{bytes_eq}
pub use Rattle.stream_base.proofs.DecimalLemmas.{decimal-lacks, number_of-decimal, number_of-spelled}
pub use Rattle.stream_base.proofs.KnownBytesLemmas.{appends_nothing, appends_then_appends, appends_then_keeps}
pub use Rattle.stream_base.proofs.KnownBytesLemmas.{consumes_nothing, consumes_then_consumes, consumes_then_keeps}
pub use Rattle.stream_base.proofs.LineLemmas.{HasLongFirstLine, ends_none, ends_then, lines_of-empty}
pub use Rattle.stream_base.proofs.LineLemmas.{lines_of-last_line, cut_once, lacks-append, lacks_not}
pub use Rattle.stream_base.proofs.LineReaderLemmas.{LineEnds, LineGrows}
pub use Rattle.stream_base.specs.Decimal.{number_of}
pub use Rattle.stream_base.specs.Fronts.{AppendsFront}
pub use Rattle.stream_base.specs.LineReader.{Reading}
pub use Rattle.stream_base.specs.Lines.{EndsLines, Lacks, line_feed, lines_of, ended_lines}
pub use Rattle.base_types.specs.declared.direction.Dir.TheVariants.{Read, Write}
