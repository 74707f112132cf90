use Rattle.std.proofs.Common.{◌∙◌, ◌+◌, sym, ap, subst}
use Rattle.relay_conn.specs.Connection.{IfDialing}
use Rattle.relay_conn.specs.SetUp.{IsBegunWith}
use Rattle.relay_conn.specs.Side.{IsWhole, key_of_side}
use Rattle.relay_facts.specs.Acceptance.{said_then}
use Rattle.relay_conn.proofs.set_up.SetUp.connection.Goals as goal

pub returns-clause-set_up : goal.returns-clause-set_up
returns-clause-set_up g c =
    let made = c.dialing_of-dialing.ensures in let sides = c.in_ok-sides.ensures in
    let kept = c.keep_others.ensures.kept in record {
      facts = c.new.ensures.facts;
      follows = c.new.ensures.target ∙ ap (λ n. n + 1) (sym c.new.ensures.client);
      dialing = c.keep_others.new.self;
      dials = c.new.ensures.dials;
      begins = record {
        up_idle = ap (λ d. d.up.time.idle.idle_ms) kept ∙ ap (λ t. t.idle.idle_ms) made.up_time
            ∙ c.in-Some.ensures.up ∙ c.idle_ms.ensures ∙ ap (λ f. (said_then f.acceptance).rule.idle_ms) c.deref.ensures;
        down_idle = ap (λ d. d.down.time.idle.idle_ms) kept ∙ ap (λ t. t.idle.idle_ms) made.down_time
            ∙ c.in-Some.ensures.down ∙ c.idle_ms.ensures ∙ ap (λ f. (said_then f.acceptance).rule.idle_ms) c.deref.ensures;
        up_reads = ap (λ d. d.tasks.up) kept ∙ made.up_reads;
        down_reads = ap (λ d. d.tasks.down) kept ∙ made.down_reads;
        time = ap (λ d. d.connect_by) kept ∙ made.connect_by;
        unfailed = ap (λ d. d.failure) kept ∙ made.unfailed;
        client = ap (λ d. key_of_side d.client) kept ∙ ap key_of_side made.client ∙ sides.client;
        target = ap (λ d. key_of_side d.target) kept ∙ ap key_of_side made.target ∙ sides.target;
        client_whole = subst (λ d. IsWhole d.client) (sym kept) (subst IsWhole (sym made.client) sides.client_whole);
        target_whole = subst (λ d. IsWhole d.target) (sym kept) (subst IsWhole (sym made.target) sides.target_whole);
      };
    }

-- it knows of the targets beside its own
pub returns-clause-others : goal.returns-clause-others
returns-clause-others g c =
    subst (λ p. IfDialing p (IsBegunWith c.args.begins.target c.args.place)) (sym c.new.ensures.dials)
    (c.now.result, c.keep_others.ensures.others)
