-- What one more read gives is counted with what came before.
use Rattle.std.proofs.Common.{◌≡◌, take, length, arith}
use Rattle.net.proofs.Drops.{drops_more}
use Rattle.net.proofs.gentle.drop_to_end.Goals as goal

pub reads-preserved : goal.reads-preserved
reads-preserved g c =
    let gave = take c.in_ok-count.count c.read_on.new.chunk in
    let all : c.in_ok-count.count ≡ length gave = grind arith in
    let more =
    drops_more c.reads.dropped c.in_ok-count.count (g.S.Read.remaining c.args.source.now)
    (g.S.Read.remaining c.reads.source) (g.S.Read.remaining c.read_on.new.self) gave c.reads.invariant.0
    c.in_ok-count.ensures.bytes.0 all in
    let count = c.saturating_add-dropped.ensures in (
      (more.0, more.1, omega (arith, more.2, count)),
      λ first kept. c.in_ok-count.ensures.keeps first (c.reads.invariant.1 first kept),
    )
