-- What the values of a configuration say.
use Rattle.std.specs.Prelude.{ℕ, Bool, List, map, Option, option_map, string_bytes}
use Rattle.client_nets.specs.Net.{Network, network_of}
use Rattle.config_values.specs.Addr.{Address, address_of}
use Rattle.config_values.specs.Ip.{Ip, ip_view}
use Rattle.config_values.specs.declared.rate.Rate.{Rate}
use Rattle.target_pick.specs.declared.picking.Balance.{Balance}
use Rattle.relay_config.specs.declared.access.Access.{Access}
use Rattle.relay_config.specs.declared.admin.Admin.{Admin}
use Rattle.relay_config.specs.declared.clients.Clients.{Clients}
use Rattle.relay_config.specs.declared.config.Config.{Config}
use Rattle.relay_config.specs.declared.config.Limits.{Limits}
use Rattle.relay_config.specs.declared.service.Service.{Service}
use Rattle.relay_config.specs.declared.health.Checks.{Checks}
use Rattle.relay_config.specs.declared.log.Format.{Format}
use Rattle.relay_config.specs.declared.log.Log.{Log}
use Rattle.relay_config.specs.declared.proxy.Proxy.{Proxy}
use Rattle.relay_config.specs.declared.proxy.Version.{Version}
use Rattle.relay_config.specs.declared.rule.Head.{Head}
use Rattle.relay_config.specs.declared.rule.Rule.{Rule}
use Rattle.relay_config.specs.declared.sockets.Sockets.{Sockets}
use Rattle.relay_config.specs.declared.target.Target.{Target}

-- a target, by what it says
pub record TargetEntry : Type 0 where
  pub at : Address
  pub weight : ℕ
  pub backup : Bool

-- how many clients a rule serves
pub record ClientsEntry : Type 0 where
  pub connections : Option ℕ
  pub source_connections : Option ℕ
  pub source_accepts : Option Rate

-- how the sockets of a rule's connections are set up
pub record SocketsEntry : Type 0 where
  pub keepalive : Option ℕ
  pub user_timeout : Option ℕ
  pub backlog : Option ℕ
  pub source : Option Ip
  pub mode : Option ℕ

-- how the targets of a rule are checked
pub record ChecksEntry : Type 0 where
  pub every : ℕ
  pub timeout : ℕ
  pub fall : ℕ
  pub rise : ℕ

-- a rule, but for its lists
pub record HeadEntry : Type 0 where
  pub name : List ℕ
  pub idle : Option ℕ
  pub balance : Balance
  pub resolve : Option ℕ
  pub clients : ClientsEntry
  pub sockets : SocketsEntry
  pub health : Option ChecksEntry

-- who may connect to a rule
pub record AccessEntry : Type 0 where
  pub allow : List Network
  pub deny : List Network

-- headers of the PROXY protocol
pub record ProxyEntry : Type 0 where
  pub from_client : List Network
  pub to_target : Option Version

-- a rule
pub record RuleEntry : Type 0 where
  pub head : HeadEntry
  pub access : AccessEntry
  pub proxy : Option ProxyEntry
  pub listen : List Address
  pub targets : List TargetEntry

-- the limits of a relay, as far as the text says them
pub record LimitsEntry : Type 0 where
  pub connections : Option ℕ
  pub rule_connections : Option ℕ
  pub connect_timeout : Option (Option ℕ)

-- the socket of admin sessions
pub record AdminEntry : Type 0 where
  pub path : List ℕ
  pub mode : Option ℕ

-- a log
pub record LogEntry : Type 0 where
  pub file : List ℕ
  pub format : Format

-- how a relay runs
pub record ServiceEntry : Type 0 where
  pub loops : Option ℕ
  pub replaces_stale : Option Bool
  pub metrics : Option Address
  pub admin : Option AdminEntry

-- a configuration
pub record ConfigEntry : Type 0 where
  pub limits : LimitsEntry
  pub service : ServiceEntry
  pub log : Option LogEntry
  pub rules : List RuleEntry

-- what values of the program say
abbrev pub target_entry : Target → TargetEntry
target_entry target = record { at = address_of target.at; weight = target.weight; backup = target.is_backup }

-- how many clients a rule serves
abbrev pub clients_entry : Clients → ClientsEntry
clients_entry clients = record {
  connections = clients.connections;
  source_connections = clients.source_connections;
  source_accepts = clients.source_accepts;
}

-- how the sockets of a rule's connections are set up
abbrev pub sockets_entry : Sockets → SocketsEntry
sockets_entry sockets = record {
  keepalive = sockets.keepalive_ms;
  user_timeout = sockets.user_timeout_ms;
  backlog = sockets.backlog;
  source = option_map ip_view sockets.source;
  mode = sockets.mode;
}

-- how the targets of a rule are checked
abbrev pub checks_entry : Checks → ChecksEntry
checks_entry checks = record {
  every = checks.every_ms;
  timeout = checks.timeout_ms;
  fall = checks.fall;
  rise = checks.rise;
}

-- the head of a rule
abbrev pub head_entry : Head → HeadEntry
head_entry head = record {
  name = head.name.bytes;
  idle = head.idle_ms;
  balance = head.balance;
  resolve = head.resolve_ms;
  clients = clients_entry head.clients;
  sockets = sockets_entry head.sockets;
  health = option_map checks_entry head.health;
}

-- who may connect to a rule
abbrev pub access_entry : Access → AccessEntry
access_entry access = record { allow = map network_of access.allow.items; deny = map network_of access.deny.items }

-- headers of the PROXY protocol
abbrev pub proxy_entry : Proxy → ProxyEntry
proxy_entry proxy = record { from_client = map network_of proxy.from_client.items; to_target = proxy.to_target }

-- a rule
abbrev pub rule_entry : Rule → RuleEntry
rule_entry rule = record {
  head = head_entry rule.head;
  access = access_entry rule.access;
  proxy = option_map proxy_entry rule.proxy;
  listen = map address_of rule.listen.items;
  targets = map target_entry rule.targets.items;
}

-- the limits of a configuration
abbrev pub limits_entry : Limits → LimitsEntry
limits_entry limits = record {
  connections = limits.connections;
  rule_connections = limits.rule_connections;
  connect_timeout = limits.connect_ms;
}

-- the socket of admin sessions
abbrev pub admin_entry : Admin → AdminEntry
admin_entry admin = record { path = admin.path.bytes; mode = admin.mode }

-- a log
abbrev pub log_entry : Log → LogEntry
log_entry log = record { file = string_bytes log.file; format = log.format }

-- how a relay runs
abbrev pub service_entry : Service → ServiceEntry
service_entry service = record {
  loops = service.loops;
  replaces_stale = service.replaces_stale;
  metrics = option_map address_of service.metrics;
  admin = option_map admin_entry service.admin;
}

-- a configuration
abbrev pub config_entry : Config → ConfigEntry
config_entry config = record {
  limits = limits_entry config.limits;
  service = service_entry config.service;
  log = option_map log_entry config.log;
  rules = map rule_entry config.rules.items;
}
