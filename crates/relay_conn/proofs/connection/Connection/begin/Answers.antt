use Rattle.std.proofs.Common.{◌≡◌, ◌∙◌, ◌<◌, ◌↔◌, Some, true, length, sym, ap, subst}
use Rattle.std.specs.Arc.{arc_value}
use Rattle.relay_conn.specs.declared.connection.Phase.TheVariants as phase
use Rattle.relay_conn.proofs.ConnectionLemmas.{begun}
use Rattle.relay_core.specs.Passing.{Bytes}
use Rattle.relay_facts.specs.Header.{first_bytes}
use Rattle.relay_facts.specs.declared.connection_facts.ConnectionFacts.{ConnectionFacts}
use Rattle.relay_conn.proofs.connection.Connection.begin.Goals as goal

-- its ways are those of what was dialled
pub returns-in-Some-Dialing-clause-begun : goal.returns-in-Some-Dialing-clause-begun
returns-in-Some-Dialing-clause-begun g c = let made = c.of-relaying.ensures in
    let its = c.in-Some-Dialing.field-0-is in
    let dials : c.in-Some-Dialing.field-0 ≡ phase.Dialing c.in-Some-Dialing.dialing = cc in
    begun (arc_value c.args.self.now.facts).acceptance c.args.self.now.phase (Some (phase.Relaying c.go_on-next.new.self)) c.in-Some-Dialing.dialing c.of-relaying.result c.go_on-next.result
    (sym c.take.ensures.value ∙ c.in-Some-Dialing.is ∙ ap Some dials)
    (record {
      client_feeds_up = made.client_feeds_up;
      up_feeds_target = made.up_feeds_target;
      target_feeds_down = made.target_feeds_down;
      down_feeds_client = made.down_feeds_client;
      up_state = made.up_state;
      down_state = made.down_state;
      up_time = made.up_time;
      down_time = made.down_time;
      up_first = made.up_first ∙ ap (λ (facts : ConnectionFacts). Bytes (first_bytes facts.acceptance)) c.deref.ensures;
      down_first = made.down_first;
      heading = subst (λ (facts : ConnectionFacts). c.of-relaying.result.up.heading ≡ true ↔ 0 < length (first_bytes facts.acceptance)) c.deref.ensures made.heading;
      down_heading = made.down_heading;
      up_share = made.up_share;
      down_share = made.down_share;
      tasks = made.tasks;
      unfailed = made.unfailed;
    })
    c.go_on-next.ensures
