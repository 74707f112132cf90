use Rattle.std.proofs.Common.{◌∙◌, sym, subst}
use Rattle.relay_core.specs.declared.ways.Way.TheVariants.{Up, Down}
use Rattle.relay_conn.specs.Connection.{gives_up}
use Rattle.relay_conn.specs.Deadlines.{HasCome}
use Rattle.relay_conn.proofs.relaying.Relaying.expire.Goals as goal

-- neither way has changed
pub returns-clause-early : goal.returns-clause-early
returns-clause-early g c = λ none.
    let first = c.expire_way.ensures.early (none Up) in
    c.expire_way-2.ensures.early
    (subst (λ r. HasCome (gives_up r Down) c.args.now → ⊥) (sym first) (none Down)) ∙ first
