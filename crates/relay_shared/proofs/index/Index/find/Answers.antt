use Rattle.std.proofs.Common.{◌∙◌, ap, sym, arith}
use Rattle.relay_shared.specs.Index.{entered}
use Rattle.relay_shared.proofs.index.Index.find.Goals as goal

pub returns-in-Some-clause-found : goal.returns-in-Some-clause-found
returns-in-Some-clause-found g c = (
  c.args.id,
  0,
  omega arith,
  ap (λ index. entered index c.args.id) (sym c.self.view_is) ∙ sym c.in-Some.ensures.value,
  c.first_side.ensures,
)
