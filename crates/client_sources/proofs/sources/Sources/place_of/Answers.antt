use Rattle.std.proofs.Common.{◌∙◌, ap, subst, arith}
use Rattle.std.specs.Prelude.{slice_get}
use Rattle.client_sources.specs.Sources.{IsTable, SourceTable}
use Rattle.client_sources.proofs.Places.{lacks_if}
use Rattle.client_sources.proofs.sources.Sources.place_of.Goals as goal

pub returns-clause-none : goal.returns-clause-none
returns-clause-none c =
    let same = c.as_slice-places.ensures.value ∙ c.self.view_is in
    lacks_if c.args.source c.args.self.now c.first_place-first.result
    (subst (λ (table : SourceTable). IsTable table) c.self.view_is c.self.invariant) c.first_place-first.ensures.value
    (λ place held low high at. c.loop-place.invariant place held low (omega (arith, high, c.loop-place-test.false))
    (ap (λ (table : SourceTable). slice_get table place) same ∙ at))
