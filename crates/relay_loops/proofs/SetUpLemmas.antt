-- What becomes of a client that was accepted.
use Rattle.std.proofs.Common.{◌≡◌, ◌∙◌, ℕ, Option, Result, Ok, Err, sym, ap, subst}
use Rattle.std.specs.Prelude.{IfOk, IfSome, option_map}
use Rattle.std.specs.Arc.{arc_value}
use Rattle.std.specs.declared.alloc.Global.{Global}
use Rattle.std.specs.declared.sync.Arc.{Arc}
use Rattle.readiness.specs.Tasks.{IsPut, SameTasks}
use Rattle.readiness.specs.declared.loop_token.Place.{Place}
use Rattle.readiness.specs.declared.tasks.Tasks.{Tasks}
use Rattle.relay_conn.specs.Asked.{counted_in}
use Rattle.relay_conn.specs.Deadlines.{IsIdleEnd}
use Rattle.relay_conn.specs.Connection.{IfDialing}
use Rattle.relay_conn.specs.SetUp.{IsBegunWith, IsSetUp}
use Rattle.relay_conn.specs.Trial.{place_tried}
use Rattle.relay_conn.specs.declared.connection.Connection.{Connection}
use Rattle.relay_conn.specs.declared.refused.Refused.{Refused}
use Rattle.relay_conn.specs.declared.trial.Trial.{Trial}
use Rattle.relay_admin.specs.declared.rules.addr.Addr.{Addr}
use Rattle.relay_facts.specs.Acceptance.{IsPicked, IsSameClient, checked_in, checked_with, list_in, said_then, source_of, targets_in, targets_with}
use Rattle.relay_facts.specs.Targets.{IsNext}
use Rattle.relay_facts.specs.declared.target_list.Targets.{Targets}
use Rattle.relay_facts.specs.declared.connection_facts.Acceptance.{Acceptance}
use Rattle.relay_facts.specs.declared.connection_facts.ConnectionFacts.{ConnectionFacts}
use Rattle.relay_facts.specs.declared.served_rule.Said.{Said}
use Rattle.relay_loops.specs.SetUp.{IsConnectionFor, IsFirstTrial}
use Rattle.relay_shared.specs.declared.inbox.Counted.{Counted}

-- a task that was put after nothing had changed was put
pub put_over : {T A : Type 0} (old mid new : Tasks T A) (at : Place) (task : T) → SameTasks old mid
    → IsPut mid new at task → IsPut old new at task
put_over old mid new at task same put = record {
  first = put.first;
  second = put.second;
  unused = sym (same at.first) ∙ put.unused;
  others = λ token first second. put.others token first second ∙ same token;
}

-- a trial for a client is one for the same client once more
pub trial_for : (one other : Acceptance) (trial : Trial) → IsSameClient one other → IsFirstTrial one trial
    → IsFirstTrial other trial
trial_for one other trial same first =
    let its = first.begun in
    let said : said_then one ≡ said_then other = sym same.said in
    let list : list_in one ≡ list_in other = ap (λ (s : Said). option_map arc_value s.targets) said in
    let targets : targets_in one ≡ targets_in other =
    ap (λ (s : Said). targets_with (option_map arc_value s.targets) s.rule) said in
    let checked : checked_in one ≡ checked_in other = ap checked_with list in
    record {
      none = first.none;
      untried = first.untried;
      begun = record {
        before = its.before;
        kept = its.kept;
        next = subst (λ ts. IsNext (checked_in other) ts its.before trial.picked) targets
            (subst (λ b. IsNext b (targets_in one) its.before trial.picked) checked its.next);
        picked = subst (λ (l : Option Targets). IfSome l (λ list. IsPicked list its.before (source_of other.client) (place_tried trial)))
            list
            (subst (λ (c : Option Addr). IfSome (list_in one) (λ list. IsPicked list its.before (source_of c) (place_tried trial)))
            (sym same.client) its.picked);
        dialled = its.dialled;
      };
    }

module _ {U D R : Type 0} where
  -- a set-up by a client's facts is one for the client
  pub for_client : (made : Result (Connection U D R) Refused) (client : Acceptance) (counted its : Counted)
      (connect_ms : Option ℕ) (at place : Place) (facts : Arc ConnectionFacts Global) (connect_by : Option ℕ)
      (trial : Trial)
      → IfOk made (IsSetUp facts place connect_by) → IfOk made (λ connection. counted_in connection ≡ its)
      → IfOk made (λ connection. IfDialing connection.phase (IsBegunWith trial place))
      → IsSameClient client (arc_value facts).acceptance
      → IsFirstTrial (arc_value facts).acceptance trial → its ≡ counted → IsIdleEnd connect_ms connect_by → place ≡ at
      → IfOk made (IsConnectionFor client counted connect_ms at)
  for_client (Err refused) client counted its connect_ms at place facts connect_by trial set_up counts begun known
      first same time here = tt
  for_client (Ok connection) client counted its connect_ms at place facts connect_by trial set_up counts begun known
      first same time here = record {
        facts = facts;
        same = known;
        trial = trial;
        first = first;
        begun = subst (λ p. IfDialing connection.phase (IsBegunWith trial p)) here begun;
        connect_by = connect_by;
        time = time;
        set_up = subst (λ p. IsSetUp facts p connect_by connection) here set_up;
        counts = counts ∙ same;
      }
