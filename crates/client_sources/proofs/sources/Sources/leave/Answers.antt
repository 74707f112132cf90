use Rattle.std.proofs.Common.{◌∙◌, sym, ap, subst, Some, set}
use Rattle.client_sources.specs.Sources.{AreFewer, MayStandAt, SourceTable}
use Rattle.client_sources.specs.declared.entry.Entry.{Entry}
use Rattle.client_sources.specs.declared.source.Source.{Source}
use Rattle.client_sources.proofs.Ended.{are_fewer, ended_nothing, ended_some, entry_at_place, may_stay}
use Rattle.client_sources.proofs.sources.Sources.leave.Goals as goal

pub put-requires : goal.put-requires
put-requires c =
    let at = entry_at_place c.args.self.now c.args.place c.in-Some.entry (sym c.entry.ensures.value ∙ c.in-Some.is) in
    record {
      may = subst (λ (it : Source). MayStandAt (Some c.args.place) it c.args.self.now)
          (sym (ap (λ (it : Entry). it.source) c.left.ensures))
          (may_stay c.args.self.now c.args.place c.in-Some.entry c.entry.ensures.table at);
    }

pub returns-in-Some-clause-fewer : goal.returns-in-Some-clause-fewer
returns-in-Some-clause-fewer c =
    let at = entry_at_place c.args.self.now c.args.place c.in-Some.entry (sym c.entry.ensures.value ∙ c.in-Some.is) in
    let is = c.put.ensures ∙ ap (λ (it : Entry). set c.args.self.now c.args.place (Some it)) c.left.ensures
    ∙ ended_some c.args.self.now c.args.place c.args.count c.in-Some.entry at in
    subst (λ (table : SourceTable). AreFewer c.args.self.now table) (sym is)
    (are_fewer c.args.self.now c.args.place c.args.count)

pub returns-in_default-clause-left : goal.returns-in_default-clause-left
returns-in_default-clause-left c =
    ended_nothing c.args.self.now c.args.place c.args.count (sym c.entry.ensures.value ∙ c.in_default.is)
