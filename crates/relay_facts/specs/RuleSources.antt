-- What a rule's table of sources lets in.
use Rattle.std.specs.Prelude.{◌≡◌, ◌↔◌, ℕ, Option, Result, Err, IfOk, IfSome, IfNone, OnErr}
use Rattle.client_sources.specs.Sources.{SourceTable, HasNoPlace, IsCountedAt, IsOverRate, IsSourceFull}
use Rattle.client_sources.specs.declared.limits.Limits.{Limits}
use Rattle.client_sources.specs.declared.limits.Refusal.{Refusal}
use Rattle.client_sources.specs.declared.limits.Refusal.TheVariants as refusal
use Rattle.client_sources.specs.declared.source.Source.{Source}

-- what a table answers of a client of this source at this moment, and what it says from then on
pub record LetsInBy (source : Source) (limits : Limits) (now : ℕ) (old new : SourceTable)
    (answer : Result (Option ℕ) Refusal) : Type 0 where
  pub counted : IfOk answer (λ seat. IfSome seat (IsCountedAt source limits now old new))
  pub uncounted : IfOk answer (λ seat. IfNone seat (HasNoPlace source limits now old × (new ≡ old)))
  pub full : (answer ≡ Err refusal.Full) ↔ IsSourceFull source limits old
  pub rate : (answer ≡ Err refusal.Rate) ↔ IsOverRate source limits now old
  pub refused : OnErr answer (new ≡ old)
