-- What happens to a table over time.
use Rattle.std.specs.Prelude.{◌≡◌, ◌≤◌, ℕ}
use Rattle.client_sources.specs.Limits.{most_standing}
use Rattle.client_sources.specs.Sources.{HasNoSource, IsCountedAt, SourceTable, ended_at, standing_of}
use Rattle.client_sources.specs.declared.limits.Limits.{Limits}
use Rattle.client_sources.specs.declared.source.Source.{Source}

-- a table by these limits: one of no source; one to which a client came, who is counted at a place, at some
-- moment; one of which so many left a place. A client that isn't let in, or has no place, changes nothing
pub data HasSourceRun : Limits → SourceTable → Type 0 where
  begins : {limits : Limits} {table : SourceTable} → HasNoSource table → HasSourceRun limits table
  comes : {limits : Limits} {old new : SourceTable} (source : Source) (now place : ℕ) →
      HasSourceRun limits old → IsCountedAt source limits now old new place → HasSourceRun limits new
  leaves : {limits : Limits} {old new : SourceTable} (place count : ℕ) →
      HasSourceRun limits old → new ≡ ended_at place count old → HasSourceRun limits new

-- of no source more stand than may, however clients came and went
abbrev pub OfNoSourceMoreStand : Type 0
OfNoSourceMoreStand = (limits : Limits) (table : SourceTable) → HasSourceRun limits table → (source : Source)
    → standing_of source table ≤ most_standing limits
