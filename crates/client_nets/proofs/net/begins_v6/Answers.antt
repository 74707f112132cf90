use Rattle.std.proofs.Common.{refl, arith}
use Rattle.std.specs.Net.Addr.{ipv6_bits}
use Rattle.client_nets.proofs.Nets.{all_are_in}
use Rattle.client_nets.proofs.net.begins_v6.Goals as goal

pub returns-then-bits-eq0 : goal.returns-then-bits-eq0
returns-then-bits-eq0 c =
    let is = all_are_in (ipv6_bits c.args.first) (ipv6_bits c.args.address) c.args.bits (omega arith) (omega arith)
    c.if-bits-eq0.true in
    ((λ _. is), (λ _. refl))
