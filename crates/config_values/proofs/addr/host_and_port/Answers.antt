use Rattle.std.proofs.Common.{◌∙◌, sym, arith}
use Rattle.config_values.proofs.HostNames.{name_short, name_visible}
use Rattle.config_values.proofs.addr.host_and_port.Goals as goal

pub held-requires : goal.held-requires
held-requires c =
    let host = c.in_ok-host.host.now in
    let is = sym c.is_host_name.ensures ∙ c.if-is_host_name.true in
    let short = name_short host is in
    (omega arith, (name_visible host is, short))
