-- What is said of a rule that has its own target alone, and of what a file asks for.
use Rattle.std.proofs.Common.{◌≡◌, ◌∙◌, ℕ, List, [], ◌∷◌, Option, Some, None, Result, Ok, Err, ap, subst}
use Rattle.std.specs.Prelude.{IfOk, map, option_map}
use Rattle.client_nets.specs.Net.{network_of}
use Rattle.client_nets.specs.declared.net.Net.{Net}
use Rattle.client_sources.specs.Limits.{no_limits}
use Rattle.client_sources.specs.declared.limits.Limits.{Limits}
use Rattle.relay_admin.specs.declared.rules.addr.Addr.{Addr}
use Rattle.relay_admin.specs.declared.rules.rule.Rule.{Rule}
use Rattle.relay_admin.specs.rules.Addr.{address_of}
use Rattle.relay_core.specs.declared.connection_limit.PairLimit.{PairLimit}
use Rattle.relay_admin.specs.declared.serve_fault.ServeFault.{ServeFault}
use Rattle.relay_admin.specs.rules.Grammar.{entry_of}
use Rattle.relay_config.specs.Entries.{SocketsEntry, checks_entry, sockets_entry}
use Rattle.relay_config.specs.declared.health.Checks.{Checks}
use Rattle.relay_config.specs.declared.proxy.Version.{Version}
use Rattle.relay_config.specs.declared.rule.TheConstants.{DEFAULT_RESOLVE_MS}
use Rattle.relay_facts.specs.Config.{AreServed, IsOfFile}
use Rattle.relay_facts.specs.Source.{FileSays, entry_alone}
use Rattle.relay_facts.specs.declared.config.Config.{Config}
use Rattle.relay_facts.specs.declared.config.Start.{Start}
use Rattle.relay_settings.specs.declared.asked.Source.{Source}
use Rattle.relay_settings.specs.declared.said.Said.{Said}
use Rattle.relay_settings.specs.Meaning.{SaidRuleEntry, named_entry, said_rule_entry, said_target_entry}
use Rattle.relay_settings.specs.Listeners.{further_listeners}
use Rattle.relay_settings.specs.Targets.{own_target, plain_sockets}
use Rattle.relay_settings.specs.declared.targets.Named.{Named}
use Rattle.relay_settings.specs.declared.targets.SaidRule.{SaidRule}
use Rattle.relay_settings.specs.declared.targets.Target.{Target}
use Rattle.target_pick.specs.declared.picking.Balance.{Balance}
use Rattle.target_pick.specs.declared.picking.Balance.TheVariants.{RoundRobin}

abbrev entry_with : Rule → List Addr → Option PairLimit → Limits → SocketsEntry → Balance → List Net → List Net → Option Checks → List Net → Option Version
    → List Target → List Named → Option ℕ → SaidRuleEntry
entry_with rule listens limit by_source sockets balance allow deny checks senders header targets names resolve = record {
  rule = entry_of rule;
  listens = map address_of listens;
  limit = option_map (λ p. p.count) limit;
  source_limits = by_source;
  sockets = sockets;
  balance = balance;
  access = record { allow = map network_of allow; deny = map network_of deny };
  checks = option_map checks_entry checks;
  senders = map network_of senders;
  header = header;
  targets = map said_target_entry targets;
  names = map named_entry names;
  resolve = resolve;
}

pub alone_entry : (said : SaidRule) (rule : Rule) → said.rule ≡ rule → said.listens.items ≡ rule.listen ∷ []
    → said.limit ≡ None → said.source_limits ≡ no_limits → sockets_entry said.sockets ≡ plain_sockets → said.balance ≡ RoundRobin
    → said.access.allow.items ≡ [] → said.access.deny.items ≡ []
    → said.checks ≡ None → said.senders.items ≡ [] → said.header ≡ None → said.targets.items ≡ own_target rule ∷ []
    → said.names.items ≡ [] → said.resolve_ms ≡ Some DEFAULT_RESOLVE_MS → said_rule_entry said ≡ entry_alone rule
alone_entry said rule same listens limit by_source sockets balance allow deny checks senders header targets names resolve =
    let own = rule.listen ∷ [] in
    let told = sockets_entry said.sockets in
    let nets = said.access in
    ap (λ r. entry_with r said.listens.items said.limit said.source_limits told said.balance nets.allow.items nets.deny.items said.checks said.senders.items said.header said.targets.items said.names.items said.resolve_ms) same
    ∙ ap (λ l. entry_with rule l said.limit said.source_limits told said.balance nets.allow.items nets.deny.items said.checks said.senders.items said.header said.targets.items said.names.items said.resolve_ms) listens
    ∙ ap (λ l. entry_with rule own l said.source_limits told said.balance nets.allow.items nets.deny.items said.checks said.senders.items said.header said.targets.items said.names.items said.resolve_ms) limit
    ∙ ap (λ b. entry_with rule own None b told said.balance nets.allow.items nets.deny.items said.checks said.senders.items said.header said.targets.items said.names.items said.resolve_ms) by_source
    ∙ ap (λ s. entry_with rule own None no_limits s said.balance nets.allow.items nets.deny.items said.checks said.senders.items said.header said.targets.items said.names.items said.resolve_ms) sockets
    ∙ ap (λ b. entry_with rule own None no_limits plain_sockets b nets.allow.items nets.deny.items said.checks said.senders.items said.header said.targets.items said.names.items said.resolve_ms) balance
    ∙ ap (λ ns. entry_with rule own None no_limits plain_sockets RoundRobin ns nets.deny.items said.checks said.senders.items said.header said.targets.items said.names.items said.resolve_ms) allow
    ∙ ap (λ ns. entry_with rule own None no_limits plain_sockets RoundRobin [] ns said.checks said.senders.items said.header said.targets.items said.names.items said.resolve_ms) deny
    ∙ ap (λ c. entry_with rule own None no_limits plain_sockets RoundRobin [] [] c said.senders.items said.header said.targets.items said.names.items said.resolve_ms) checks
    ∙ ap (λ ns. entry_with rule own None no_limits plain_sockets RoundRobin [] [] None ns said.header said.targets.items said.names.items said.resolve_ms) senders
    ∙ ap (λ h. entry_with rule own None no_limits plain_sockets RoundRobin [] [] None [] h said.targets.items said.names.items said.resolve_ms) header
    ∙ ap (λ ts. entry_with rule own None no_limits plain_sockets RoundRobin [] [] None [] None ts said.names.items said.resolve_ms) targets
    ∙ ap (λ ns. entry_with rule own None no_limits plain_sockets RoundRobin [] [] None [] None (own_target rule ∷ []) ns said.resolve_ms) names
    ∙ ap (λ ms. entry_with rule own None no_limits plain_sockets RoundRobin [] [] None [] None (own_target rule ∷ []) [] ms) resolve

-- a start by what a file says, whose rules are served, is one of that file
pub of_file : (made : Result Config ServeFault) (source : Source) (said : Said) (start : Start) (rules : List SaidRule)
    → FileSays source said → rules ≡ said.rules.items → start.file ≡ said.settings
    → IfOk made (λ config. config.start ≡ start)
    → IfOk made (λ config. AreServed rules config.capacity.loops.count config.rules.items)
    → IfOk made (λ config. config.further ≡ further_listeners rules)
    → IfOk made (IsOfFile source)
of_file (Err fault) source said start rules says same file is served further = tt
of_file (Ok config) source said start rules says same file is served further = (
  said,
  says,
  ap (λ (s : Start). s.file) is ∙ file,
  subst (λ rs. AreServed rs config.capacity.loops.count config.rules.items) same served,
  further ∙ ap further_listeners same,
)
