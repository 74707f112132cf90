use Rattle.std.proofs.Common.{arith, rules}
use Rattle.proxy_header.proofs.Lines.{none_spelled}
use Rattle.proxy_header.proofs.line.said_in.Goals as goal

pub returns : goal.returns
returns c = first_of (search (rules, none_spelled), grind (arith, none_spelled))
