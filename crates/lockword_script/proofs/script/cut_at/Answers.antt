use Rattle.stream_base.proofs.LineLemmas.{lacks-take_more}
use Rattle.lockword_script.proofs.script.cut_at.Goals as goal

pub loop-i-preserved : goal.loop-i-preserved
loop-i-preserved c =
    lacks-take_more c.args.byte c.args.text.now c.loop-i.i c.loop-i-test.true c.loop-i.invariant c.if-b-byte.false
