-- Each line is heard in all bytes that came.
use Rattle.std.proofs.Common.{◌<◌, take, length, arith, refl}
use Rattle.net.proofs.LineLooks.{heard_at_once, read_hears, read_pends}
use Rattle.net.proofs.lines.Lines.read.Goals as goal

pub returns-in-Some : goal.returns-in-Some
returns-in-Some g c = record {
  looked =
      heard_at_once c.in-Some.heard c.args.self.now c.find.new.self (g.S.Read.remaining c.args.source.now)
      c.in-Some.ensures.no_end c.in-Some.ensures.heard;
}

pub returns-in-Some-hear : goal.returns-in-Some-hear
returns-in-Some-hear g c =
    let room : 0 < length c.read.new.buf = omega arith in
    record {
      looked =
          read_hears c.in-Some-hear.heard c.args.self.now c.reads.self c.hear.new.self
          (g.S.Read.remaining c.args.source.now) (g.S.Read.remaining c.reads.source)
          (g.S.Read.remaining c.read.new.self) (take c.in_ok-count.count c.read.new.buf) c.reads.invariant
          c.in-Some-hear.ensures.heard c.in_ok-count.ensures.bytes.0
          (λ same. c.in_ok-count.ensures.bytes.1 (c.in-Some-hear.ensures.end same) room);
    }

pub reads-preserved : goal.reads-preserved
reads-preserved g c =
    read_pends c.args.self.now c.reads.self c.hear.new.self (g.S.Read.remaining c.args.source.now)
    (g.S.Read.remaining c.reads.source) (g.S.Read.remaining c.read.new.self)
    (take c.in_ok-count.count c.read.new.buf) c.reads.invariant (c.in_default-hear.ensures.pending refl)
    c.in_ok-count.ensures.bytes.0
