use Rattle.std.proofs.Common.{◌≡◌, ◌∙◌, ◌≤◌, ◌<◌, length, get_or, sym, subst, arith}
use Rattle.stream_base.proofs.LineReaderLemmas.{Went, ahead_begins, ahead_is_none, finds_line, finds_too_long}
use Rattle.stream_base.proofs.LineReaderLemmas.{finds_unended, lower_number, same_number, went_nowhere_as, went_on}
use Rattle.stream_base.proofs.line_reader.LineReader.find_line.Goals as goal

pub loop-self-init : goal.loop-self-init
loop-self-init g c = record {
  short = c.self.invariant.0;
  begun = c.self.invariant.1;
  whole = c.self.told;
  bounded = c.self.invariant.2;
  went = went_nowhere_as _ _ c.self.view_is;
}

pub invariant_of-self : goal.invariant_of-self
invariant_of-self g c =
    let i = c.loop-self.invariant in
    (i.short, i.begun, i.bounded)

pub bounds-self-inside-self-inside : goal.bounds-self-inside-self-inside
bounds-self-inside-self-inside g c =
    let bounded : c.loop-self.self-inside.end ≤ 4096 = c.loop-self.invariant.bounded in
    omega (arith, c.loop-self-test.true)

-- the line feed

pub invariant_of-self-then-byte-eq10 : goal.invariant_of-self-then-byte-eq10
invariant_of-self-then-byte-eq10 g c =
    let i = c.loop-self.invariant in
    (i.short, omega (arith, c.loop-self-test.true), i.bounded)

pub returns-then-byte-eq10-clause-found : goal.returns-then-byte-eq10-clause-found
returns-then-byte-eq10-clause-found g c =
    let i = c.loop-self.invariant in
    let r = c.loop-self.self-inside in
    let fits : r.end ≤ length r.chunk = omega (arith, i.whole, i.bounded) in
    let begins = ahead_begins r.chunk r.at r.end c.loop-self-test.true fits in
    finds_line g.row.LIMIT _ _ (get_or r.chunk r.at 0) (subst (Went c.args.self.now r.line.items) begins i.went)
    c.if-byte-eq10.true

pub returns-then-byte-eq10-clause-fits : goal.returns-then-byte-eq10-clause-fits
returns-then-byte-eq10-clause-fits g c = c.loop-self.invariant.short

-- one byte too many

pub invariant_of-self-then-is_full : goal.invariant_of-self-then-is_full
invariant_of-self-then-is_full g c =
    let i = c.loop-self.invariant in
    (i.short, i.begun, i.bounded)

pub returns-then-is_full-clause-found : goal.returns-then-is_full-clause-found
returns-then-is_full-clause-found g c =
    let i = c.loop-self.invariant in
    let r = c.loop-self.self-inside in
    let fits : r.end ≤ length r.chunk = omega (arith, i.whole, i.bounded) in
    let begins = ahead_begins r.chunk r.at r.end c.loop-self-test.true fits in
    let full : length r.line.items ≡ g.row.LIMIT = same_number _ _ (sym c.is_full.ensures.value ∙ c.if-is_full.true) in
    finds_too_long g.row.LIMIT _ _ (get_or r.chunk r.at 0) _ i.went begins c.if-byte-eq10.false full

-- one byte more of the line

pub loop-self-preserved : goal.loop-self-preserved
loop-self-preserved g c =
    let i = c.loop-self.invariant in
    let r = c.loop-self.self-inside in
    let fits : r.end ≤ length r.chunk = omega (arith, i.whole, i.bounded) in
    let begins = ahead_begins r.chunk r.at r.end c.loop-self-test.true fits in
    let room : length r.line.items < g.row.LIMIT =
    lower_number _ _ (sym c.is_full.ensures.value ∙ c.if-is_full.false) i.short in
    record {
      short = omega (arith, c.push.ensures.len);
      begun = omega (arith, c.loop-self-test.true);
      whole = i.whole;
      bounded = i.bounded;
      went =
          went_on _ r.line.items c.push.new.self.items _ (get_or r.chunk r.at 0)
          (subst (Went c.args.self.now r.line.items) begins i.went) c.if-byte-eq10.false c.push.ensures.items;
    }

-- no byte is ahead

pub returns-clause-found : goal.returns-clause-found
returns-clause-found g c =
    let i = c.loop-self.invariant in
    let r = c.loop-self.self-inside in
    finds_unended g.row.LIMIT _ _ i.went (ahead_is_none r.chunk r.at r.end (omega (arith, c.loop-self-test.false)))

pub returns-clause-fits : goal.returns-clause-fits
returns-clause-fits g c = c.loop-self.invariant.short
