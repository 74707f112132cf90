use Rattle.std.proofs.Common.{◌<◌, ℕ, List, subst, sym}
use Rattle.std.specs.Prelude.{AllPairs, Contains, ◌↔◌}
use Rattle.relay_shared.specs.Index.{NamesAnything}
use Rattle.relay_shared.proofs.IndexIds.{ids_rise, listed_is_named}
use Rattle.relay_shared.proofs.index.Index.ids.Goals as goal

pub returns-clause-rising : goal.returns-clause-rising
returns-clause-rising g c =
    subst (λ (ids : List ℕ). AllPairs (λ id later. id < later) ids) (sym c.in_ok-ids.ensures.listed)
    (ids_rise c.args.self.now.entries c.all_ids.ensures.register.rising)

pub returns-clause-named : goal.returns-clause-named
returns-clause-named g c = λ id.
    subst (λ (ids : List ℕ). Contains ids id ↔ NamesAnything c.args.self.now id) (sym c.in_ok-ids.ensures.listed)
    (listed_is_named c.args.self.now c.all_ids.ensures.register id)
