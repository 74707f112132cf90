use Rattle.proxy_header.proofs.Lines.{v6_behind}
use Rattle.proxy_header.proofs.line.ipv6_in.Goals as goal

pub returns-in-Some : goal.returns-in-Some
returns-in-Some c = v6_behind c.args.line.now c.in-Some.text.now c.ipv6.result c.in-Some.ensures c.ipv6.ensures

pub returns-in-None : goal.returns-in-None
returns-in-None c = λ ends h. c.in-None.ensures h.0 h.1
