use Rattle.relay_conn.proofs.RelayingLemmas.{gone_on}
use Rattle.relay_conn.proofs.relaying.Relaying.go_on.Goals as goal

-- by what tells of no moment
pub returns : goal.returns
returns g c =
    gone_on c.args.self.now c.hear.new.self c.up_on.new.self c.down_on.new.self c.args.why c.next.result
    c.ways_by-ways.result.up c.ways_by-ways.result.down (λ now is. c.in_default.not-Time now is)
    c.hear.ensures.up c.hear.ensures.down c.hear.ensures.tasks
    c.ways_by-ways.ensures.up c.ways_by-ways.ensures.down
    c.up_on.ensures.went c.up_on.ensures.stays c.up_on.ensures.down c.up_on.ensures.down_stands
    c.down_on.ensures.went c.down_on.ensures.stays c.down_on.ensures.up c.down_on.ensures.up_stands
    c.next.ensures.closes c.next.ensures.again
