use Rattle.std.proofs.Common.{◌≡◌, ◌∙◌, ap, Bool, subst, ℕ, ◌+◌, ◌++◌, ◌-◌, ◌≤◌, ◌<◌, List, take, drop, length, arith}
use Rattle.std.proofs.Common.{length-drop}
use Rattle.std.specs.Io.KnownBytes.{Appends}
use Rattle.std.proofs.Math.Seq.{take-add}
use Rattle.std.proofs.lemmas.List.{take_all}
use Rattle.stream_base.specs.Attempt.{flushed_after}
use Rattle.stream_base.proofs.AttemptLemmas.{flushed_after-append}
use Rattle.stream_base.proofs.KnownBytesLemmas.{appends_then_appends}
use Rattle.stream_base.proofs.sink.write_to.Goals as goal

-- what was written before and the front of the rest are a longer front
pub loop-at-preserved : goal.loop-at-preserved
loop-at-preserved g c =
    let text : List ℕ = c.args.text.now in
    let rest : List ℕ = drop c.loop-at.at text in
    let all_the_rest : take (length text - c.loop-at.at) rest ≡ rest =
    take_all (length text - c.loop-at.at) rest (omega (arith, length-drop c.loop-at.at text)) in
    let bound : (0 < c.in-Ok.n) × (c.in-Ok.n ≤ length (take (length text - c.loop-at.at) rest)) =
    c.in-Ok.ensures.bound in
    let front : take (c.loop-at.at + c.in-Ok.n) text ≡ take c.loop-at.at text ++ take c.in-Ok.n rest =
    take-add c.loop-at.at c.in-Ok.n text in
    record {
      within = omega (arith, ap length all_the_rest, length-drop c.loop-at.at text);
      written =
          rw front
          (appends_then_appends _ _ _ (take c.loop-at.at text) (take c.in-Ok.n rest) c.loop-at.invariant.written
          (subst (λ (l : List ℕ). Appends (g.K.Sink.contents c.loop-at.sink) (g.K.Sink.contents c.write_some.new.sink)
          (take c.in-Ok.n l)) all_the_rest c.in-Ok.ensures.bytes));
      uninterrupted = c.in-Ok.ensures.row;
      health = cc (c.in-Ok.ensures.health);
      progress = cc (c.in-Ok.ensures.progress);
      flushed =
          rw front
          (subst (λ (l : List ℕ). g.K.Sink.flushed c.write_some.new.sink ≡ flushed_after
          (g.K.Sink.flushed c.loop-at.sink) (take c.in-Ok.n l)) all_the_rest c.in-Ok.ensures.flushed
          ∙ ap (λ (f : Bool). flushed_after f (take c.in-Ok.n rest)) c.loop-at.invariant.flushed
          ∙ flushed_after-append (g.K.Sink.flushed c.args.sink.now) (take c.loop-at.at text) (take c.in-Ok.n rest));
      same = g.met.K.Sink.stays_on _ _ _ c.loop-at.invariant.same c.write_some.ensures.same;
    }
