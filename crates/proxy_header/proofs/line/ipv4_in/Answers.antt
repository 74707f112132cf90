use Rattle.proxy_header.proofs.Lines.{v4_behind}
use Rattle.proxy_header.proofs.line.ipv4_in.Goals as goal

pub returns-in-Some : goal.returns-in-Some
returns-in-Some c = v4_behind c.args.line.now c.in-Some.text.now c.ipv4.result c.in-Some.ensures c.ipv4.ensures

pub returns-in-None : goal.returns-in-None
returns-in-None c = λ ends h. c.in-None.ensures h.0 h.1
