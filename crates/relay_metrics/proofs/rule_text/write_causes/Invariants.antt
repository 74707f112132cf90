use Rattle.std.proofs.Common.{◌≡◌, ◌++◌, map}
use Rattle.relay_metrics.proofs.CauseLemmas.{front_text}
use Rattle.relay_metrics.proofs.rule_text.write_causes.Given as goal

abbrev pub invariant-loop-place : goal.invariant-loop-place
invariant-loop-place g l = l.into.items
    ≡ l.initial.into.items ++ front_text l.family l.rule (map (λ cause. cause.now) l.causes) l.counts l.place
