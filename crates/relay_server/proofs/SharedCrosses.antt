-- What the threads of a relay share may go from one to another. A search over the whole of it stops at a
-- limit, so each part that stands in it more than once is searched for alone.
use denote.Param.Send.{IsSend, IsSync, sendable}
use denote.Param.SendFields.{declared_send, declared_sync}
use Rattle.std.proofs.Crossing.{crosses}
use Rattle.std.proofs.MapsCrossing as maps
use Rattle.readiness.specs.contracts.sock.Sock as sock
use Rattle.relay_facts.specs.contracts.counts.RuleCounts as counts
use Rattle.relay_facts.specs.contracts.rule_sources.RuleSources as sources
use Rattle.relay_facts.specs.contracts.served_rule.Said as said
use Rattle.relay_facts.specs.contracts.served_rule.ServedRule as rule
use Rattle.relay_facts.specs.contracts.target_list.Targets as targets
use Rattle.relay_facts.specs.contracts.connection_facts.Acceptance as acceptance
use Rattle.relay_facts.specs.contracts.connection_facts.ConnectionFacts as conn_facts
use Rattle.relay_shared.specs.contracts.inbox.Counted as counted
use Rattle.relay_shared.specs.contracts.inbox.Accepted as accepted
use Rattle.relay_shared.specs.contracts.inbox.Inbox as inbox
use Rattle.std.specs.contracts.alloc.Global as global
use Rattle.std.specs.contracts.impls.GlobalAllocator.TheImpl as heap
use Rattle.relay_core.specs.contracts.LoopMemory as memory
use Rattle.relay_shared.specs.contracts.loop_handle.LoopHandle as handle
use Rattle.relay_shared.specs.contracts.loop_handle.LoopParts as loop_parts
use Rattle.relay_shared.specs.contracts.lookups.Lookups as lookups
use Rattle.relay_shared.specs.contracts.shared.Shared as shared
use Rattle.relay_server.specs.contracts.names_thread.NamesStart as names_start
use Rattle.relay_server.specs.contracts.threads.LoopStart as loop_start

sock_send : IsSend sock.the_row
sock_send = search (sendable, crosses) depth 60 fits 100000

targets_send : IsSend targets.the_row
targets_send = search (sendable, crosses) depth 60 fits 100000

targets_sync : IsSync targets.the_row
targets_sync = search (sendable, crosses) depth 60 fits 100000

counts_send : IsSend counts.the_row
counts_send = search (sendable, crosses) depth 60 fits 100000

counts_sync : IsSync counts.the_row
counts_sync = search (sendable, crosses) depth 60 fits 100000

sources_send : IsSend sources.the_row
sources_send = search (sendable, crosses) depth 60 fits 100000

sources_sync : IsSync sources.the_row
sources_sync = search (sendable, crosses) depth 60 fits 100000

ruleset of_lists = (targets_send, targets_sync, sources_send, sources_sync, sendable, crosses)

-- one search for each field of `Said`, in its order
said_send : IsSend said.the_row
said_send = declared_send said.the_type (search of_lists depth 60 fits 100000, (search of_lists depth 60 fits 100000, (search of_lists depth 60 fits 100000, (search of_lists depth 60 fits 100000, (search of_lists depth 60 fits 100000, (search of_lists depth 60 fits 100000, (search of_lists depth 60 fits 100000, (search of_lists depth 60 fits 100000, (search of_lists depth 60 fits 100000, (search of_lists depth 60 fits 100000, (search of_lists depth 60 fits 100000, tt)))))))))))

said_sync : IsSync said.the_row
said_sync = declared_sync said.the_type (search of_lists depth 60 fits 100000, (search of_lists depth 60 fits 100000, (search of_lists depth 60 fits 100000, (search of_lists depth 60 fits 100000, (search of_lists depth 60 fits 100000, (search of_lists depth 60 fits 100000, (search of_lists depth 60 fits 100000, (search of_lists depth 60 fits 100000, (search of_lists depth 60 fits 100000, (search of_lists depth 60 fits 100000, (search of_lists depth 60 fits 100000, tt)))))))))))

ruleset of_rules = (said_send, said_sync, counts_send, counts_sync, sendable, crosses)

-- one search for each field of `ServedRule`, in its order
rule_send : IsSend rule.the_row
rule_send = declared_send rule.the_type (search of_rules depth 60 fits 100000, (search of_rules depth 60 fits 100000, (search of_rules depth 60 fits 100000, (search of_rules depth 60 fits 100000, (search of_rules depth 60 fits 100000, (search of_rules depth 60 fits 100000, (search of_rules depth 60 fits 100000, tt)))))))

rule_sync : IsSync rule.the_row
rule_sync = declared_sync rule.the_type (search of_rules depth 60 fits 100000, (search of_rules depth 60 fits 100000, (search of_rules depth 60 fits 100000, (search of_rules depth 60 fits 100000, (search of_rules depth 60 fits 100000, (search of_rules depth 60 fits 100000, (search of_rules depth 60 fits 100000, tt)))))))

ruleset of_clients = (rule_send, rule_sync, said_send, said_sync, sendable, crosses)

acceptance_send : IsSend acceptance.the_row
acceptance_send = search of_clients depth 60 fits 100000

acceptance_sync : IsSync acceptance.the_row
acceptance_sync = search of_clients depth 60 fits 100000

counted_send : IsSend counted.the_row
counted_send = search of_clients depth 60 fits 100000

accepted_send : IsSend accepted.the_row
accepted_send = declared_send accepted.the_type (sock_send, (acceptance_send, (counted_send, tt)))

inbox_send : IsSend inbox.the_row
inbox_send = search (accepted_send, sendable, crosses) depth 60 fits 100000

-- one search for each field of `ConnectionFacts`, in its order
facts_send : IsSend conn_facts.the_row
facts_send = declared_send conn_facts.the_type (acceptance_send, (search (sendable, crosses) depth 60 fits 100000, (search (sendable, crosses) depth 60 fits 100000, (search (sendable, crosses) depth 60 fits 100000, (search (sendable, crosses) depth 60 fits 100000, (search (sendable, crosses) depth 60 fits 100000, (search (sendable, crosses) depth 60 fits 100000, tt)))))))

facts_sync : IsSync conn_facts.the_row
facts_sync = declared_sync conn_facts.the_type (acceptance_sync, (search (sendable, crosses) depth 60 fits 100000, (search (sendable, crosses) depth 60 fits 100000, (search (sendable, crosses) depth 60 fits 100000, (search (sendable, crosses) depth 60 fits 100000, (search (sendable, crosses) depth 60 fits 100000, (search (sendable, crosses) depth 60 fits 100000, tt)))))))

handle_send : IsSend handle.the_row
handle_send = search (inbox_send, sendable, crosses, maps.crosses) depth 60 fits 100000

handle_sync : IsSync handle.the_row
handle_sync = search (inbox_send, sendable, crosses, maps.crosses) depth 60 fits 100000

lookups_send : IsSend lookups.the_row
lookups_send = search (sendable, crosses) depth 60 fits 100000

lookups_sync : IsSync lookups.the_row
lookups_sync = search (sendable, crosses) depth 60 fits 100000

ruleset parts = (lookups_send, lookups_sync, rule_send, rule_sync, facts_send, facts_sync, handle_send, handle_sync, sendable, crosses, maps.crosses)

-- one search for each field of `Shared`, in its order
pub shared_send : IsSend shared.the_row
shared_send = declared_send shared.the_type (search parts depth 60 fits 100000, (search parts depth 60 fits 100000, (search parts depth 60 fits 100000, (search parts depth 60 fits 100000, (search parts depth 60 fits 100000, (search parts depth 60 fits 100000, (search parts depth 60 fits 100000, (search parts depth 60 fits 100000, (search parts depth 60 fits 100000, (search parts depth 60 fits 100000, (search parts depth 60 fits 100000, (search parts depth 60 fits 100000, (search parts depth 60 fits 100000, (search parts depth 60 fits 100000, (search parts depth 60 fits 100000, tt)))))))))))))))

pub shared_sync : IsSync shared.the_row
shared_sync = declared_sync shared.the_type (search parts depth 60 fits 100000, (search parts depth 60 fits 100000, (search parts depth 60 fits 100000, (search parts depth 60 fits 100000, (search parts depth 60 fits 100000, (search parts depth 60 fits 100000, (search parts depth 60 fits 100000, (search parts depth 60 fits 100000, (search parts depth 60 fits 100000, (search parts depth 60 fits 100000, (search parts depth 60 fits 100000, (search parts depth 60 fits 100000, (search parts depth 60 fits 100000, (search parts depth 60 fits 100000, (search parts depth 60 fits 100000, tt)))))))))))))))

parts_send : IsSend loop_parts.the_row
parts_send = search (sendable, crosses, maps.crosses) depth 60 fits 100000

memory_send : IsSend (memory.the_row global.the_row heap.ghosts)
memory_send = search (sendable, crosses, maps.crosses) depth 60 fits 100000

-- one search for each field of `LoopStart`, in its order
pub start_send : IsSend loop_start.the_row
start_send = declared_send loop_start.the_type (
  search (sendable, crosses) depth 20,
  (
    search (sendable, crosses) depth 20,
    (
      search (sendable, crosses) depth 20,
      (
        search (shared_send, shared_sync, sendable, crosses) depth 20 fits 10000,
        (search (parts_send, sendable) depth 20, (search (memory_send, sendable) depth 20, tt)),
      ),
    ),
  ),
)

-- one search for each field of `NamesStart`, in its order
pub names_send : IsSend names_start.the_row
names_send = declared_send names_start.the_type (search (lookups_send, lookups_sync, sendable, crosses) depth 20 fits 10000, (search (sendable, crosses, maps.crosses) depth 60 fits 100000, (search (sendable, crosses) depth 20, tt)))
