use Rattle.std.proofs.Common.{◌<◌, sym, subst, refl, ℕ, Option, Some, None, get_or, length, arith}
use Rattle.std.proofs.lemmas.Option.{slice_get-get_or}
use Rattle.client_sources.specs.Sources.{MayStandAt, SourceTable}
use Rattle.client_sources.proofs.Places.{table_put}
use Rattle.client_sources.proofs.sources.Sources.put.Goals as goal

pub invariant_of-self : goal.invariant_of-self
invariant_of-self c =
    let items = c.self.inside.places.items in
    let within : c.in-Some.place < length items =
    omega (arith, c.in-Some-get_mut.ensures.variant.0 refl, c.self.inside.places.ok.0) in
    let may : MayStandAt (Some c.in-Some.place) c.args.entry.source items =
    subst (λ (table : SourceTable). MayStandAt (Some c.in-Some.place) c.args.entry.source table) (sym c.self.view_is)
    (subst (λ (at : Option ℕ). MayStandAt at c.args.entry.source c.args.self.now) c.in-Some.is c.requires.may) in
    table_put items c.in-Some.place c.args.entry (get_or items c.in-Some.place None) c.self.invariant
    (slice_get-get_or items c.in-Some.place None within) may
