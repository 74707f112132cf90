-- The words of other crates that specifications and contracts cite, from one place.
pub use Rattle.std.specs.Io.KnownBytes.{Appends, Consumes, IsAtEnd}
pub use Rattle.std.specs.Prelude.{ℕ, Bool, List, []}
pub use Rattle.std.specs.Prelude.{length, Option, None, Result, Ok, Err, map, take, Some, IfSome}
pub use Rattle.std.specs.Prelude.{OnOk, OnErr, IfOk, IfErr}
pub use Rattle.stream_base.specs.Attempt.{WriteStopped}
pub use Rattle.stream_base.specs.Lines.{lines_of, line_feed, Lacks, EndsLines, ended_lines}
