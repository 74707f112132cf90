use Rattle.std.proofs.Common.{sym, ap, refl, subst, arith, List}
use Rattle.relay_admin.specs.rules.Grammar.{Entry, entries_of}
use Rattle.relay_admin.proofs.rules.LineSteps.{SoFar, nothing_yet, one_line_more, all_lines, faulty_line, empty_text}
use Rattle.relay_admin.proofs.rules.file.Rules.parse.Goals as goal

pub loop-rest-init : goal.loop-rest-init
loop-rest-init c = record {
  few_lines = omega arith;
  so_far = subst (λ (entries : List Entry). SoFar c.args.text.now c.args.text.now 1 entries)
      (ap entries_of (sym c.new-rules.ensures)) (nothing_yet c.args.text.now);
}

pub returns-in-Err : goal.returns-in-Err
returns-in-Err c = record {
  rules = tt;
  fault =
      faulty_line c.args.text.now c.loop-rest.rest.now _ c.first_line.result.1.now _ _ c.in-Err.fault
      c.if-text-gt-MAX_BYTES.false c.loop-rest.invariant.so_far c.first_line.ensures.cut c.in-Err.ensures.1;
}

pub loop-rest-preserved : goal.loop-rest-preserved
loop-rest-preserved c = record {
  few_lines = let shorter = c.first_line.ensures.shorter in let few = c.loop-rest.invariant.few_lines in omega arith;
  so_far =
      one_line_more c.args.text.now c.loop-rest.rest.now _ c.first_line.result.1.now c.loop-rest.number _ _ _
      c.loop-rest.invariant.so_far c.first_line.ensures.cut c.in_default.ensures refl;
}

pub returns : goal.returns
returns c = record {
  rules =
      all_lines c.args.text.now c.loop-rest.rest.now c.loop-rest.number _ c.if-text-gt-MAX_BYTES.false
      c.loop-rest.invariant.so_far (empty_text c.loop-rest.rest.now _ c.is_empty.ensures c.loop-rest-test.false);
  fault = tt;
}
