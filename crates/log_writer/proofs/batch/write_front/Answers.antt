use Rattle.std.proofs.Common.{◌≡◌, ap, subst, ℕ, ◌+◌, ◌++◌, ◌-◌, ◌≤◌, List, take, drop, length, arith}
use Rattle.std.proofs.Common.{length-drop}
use Rattle.std.specs.Io.KnownBytes.{Appends}
use Rattle.std.proofs.Math.Seq.{take-add}
use Rattle.std.proofs.lemmas.List.{take_all}
use Rattle.stream_base.proofs.KnownBytesLemmas.{appends_then_appends}
use Rattle.log_writer.proofs.batch.write_front.Goals as goal

-- what was written before and the front of the rest are a longer front
pub loop-at-preserved : goal.loop-at-preserved
loop-at-preserved g c =
    let text : List ℕ = c.args.text.now in
    let rest : List ℕ = drop c.loop-at.at text in
    let all_the_rest : take (length text - c.loop-at.at) rest ≡ rest =
    take_all (length text - c.loop-at.at) rest (omega (arith, length-drop c.loop-at.at text)) in
    let bound : c.in-Ok.count ≤ length (take (length text - c.loop-at.at) rest) = c.in-Ok.ensures.bound in
    let front : take (c.loop-at.at + c.in-Ok.count) text ≡ take c.loop-at.at text ++ take c.in-Ok.count rest =
    take-add c.loop-at.at c.in-Ok.count text in
    record {
      within = omega (arith, ap length all_the_rest, length-drop c.loop-at.at text);
      written =
          rw front
          (appends_then_appends _ _ _ (take c.loop-at.at text) (take c.in-Ok.count rest) c.loop-at.invariant.written
          (subst (λ (l : List ℕ). Appends (g.K.Sink.contents c.loop-at.sink) (g.K.Sink.contents c.try_write.new.self)
          (take c.in-Ok.count l)) all_the_rest c.in-Ok.ensures.bytes));
      same = g.met.K.Sink.stays_on _ _ _ c.loop-at.invariant.same c.try_write.ensures.same;
    }
