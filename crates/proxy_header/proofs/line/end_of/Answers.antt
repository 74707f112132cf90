use Rattle.std.proofs.Common.{arith}
use Rattle.proxy_header.proofs.Fronts.{end_within}
use Rattle.proxy_header.proofs.line.end_of.Goals as goal

pub returns-clause-none : goal.returns-clause-none
returns-clause-none c = λ k short end.
    let within = end_within c.args.bytes.now k end in
    c.loop-at.invariant k (omega arith) end
