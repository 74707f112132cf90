-- Addresses of rules and of sockets.
use Rattle.relay_admin.specs.declared.rules.addr.Addr.{Addr as RuleAddr}
use Rattle.relay_admin.specs.declared.rules.addr.Addr.TheVariants as rule
use Rattle.readiness.specs.declared.addr.Addr.{Addr}
use Rattle.readiness.specs.declared.addr.Addr.TheVariants as socket

-- the same address in the terms of sockets
abbrev pub socket_address : RuleAddr → Addr
socket_address (rule.Tcp bytes port) = socket.Tcp bytes port
socket_address (rule.Tcp6 ip scope port) = socket.Tcp6 ip scope port
socket_address (rule.Unix path) = socket.Unix path

-- the same address in the terms of rules
abbrev pub rule_address : Addr → RuleAddr
rule_address (socket.Tcp bytes port) = rule.Tcp bytes port
rule_address (socket.Tcp6 ip scope port) = rule.Tcp6 ip scope port
rule_address (socket.Unix path) = rule.Unix path
