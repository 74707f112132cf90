use Rattle.std.proofs.Common.{sym, drop, inr}
use Rattle.std.specs.Prelude.{codes}
use Rattle.std.proofs.lemmas.Bool.Decides.{Decides-eqb}
use Rattle.std.proofs.lemmas.Slice.Eq.{starts_is}
use Rattle.proxy_header.proofs.Lines.{says_it}
use Rattle.proxy_header.proofs.line.says_unknown.Goals as goal

pub returns-else-eq : goal.returns-else-eq
returns-else-eq c =
    let line = c.args.line.now in
    let starts = starts_is Decides-eqb line (codes "PROXY UNKNOWN ") c.starts_with.result c.starts_with.ensures.value in
    ((λ is. inr (drop 14 line, starts.0 is)), (λ says. says_it line c.starts_with.result (sym c.if-eq.ensures) starts.1 says))
