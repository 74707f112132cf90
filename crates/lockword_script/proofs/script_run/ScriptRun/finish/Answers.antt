use Rattle.std.proofs.Common.{◌≡◌, ◌<◌, ◌∙◌, sym, ap, arith, length, ℕ, []}
use Rattle.std.specs.Prelude.{◌==◌, true, false}
use Rattle.std.proofs.lemmas.Bool.Decides.{nat_tests}
use Rattle.std.proofs.lemmas.List.{append-nil}
use Rattle.lockword_script.specs.TraceOutput.{printed_of_events, printed_of_bad_line}
use Rattle.lockword_script.proofs.ProgressLemmas.{ends_between_lines, ends_with_good_line, ends_with_bad_line}
use Rattle.lockword_script.proofs.script_run.ScriptRun.finish.Goals as goal

is_zero : (n : ℕ) → (n == 0) ≡ true → n ≡ 0
is_zero n e = grind (arith, nat_tests)

isnt_zero : (n : ℕ) → (n == 0) ≡ false → 0 < n
isnt_zero n e = grind (arith, nat_tests)

-- nothing came after the last line feed
pub returns-then-is_empty-clause-ok : goal.returns-then-is_empty-clause-ok
returns-then-is_empty-clause-ok c =
    let self = c.args.self.now in
    let none : length c.line.result.now ≡ 0 = is_zero _ (sym c.is_empty.ensures ∙ c.if-is_empty.true) in (
      [],
      sym (append-nil c.args.out.now.items),
      ends_between_lines self.number self.machine self.lines.held (omega (arith, ap length c.line.ensures.bytes, none)),
    )

-- a good last line
pub returns-in-Ok-None-clause-ok : goal.returns-in-Ok-None-clause-ok
returns-in-Ok-None-clause-ok c =
    let self = c.args.self.now in
    let some : 0 < length c.line.result.now = isnt_zero _ (sym c.is_empty.ensures ∙ c.if-is_empty.false) in
    let held : 0 < length self.lines.held = omega (arith, ap length c.line.ensures.bytes, some) in
    let g = rw c.in-Ok-None.field-0-is at c.in-Ok-None.ensures.good in (
      printed_of_events self.machine g.0 g.1 g.2,
      g.6,
      ends_with_good_line self.number self.machine self.lines.held g.0 g.1 g.2 c.requires.unended held g.3 g.4,
    )

-- a bad last line
pub returns-in-Ok-Some-clause-ok : goal.returns-in-Ok-Some-clause-ok
returns-in-Ok-Some-clause-ok c =
    let self = c.args.self.now in
    let some : 0 < length c.line.result.now = isnt_zero _ (sym c.is_empty.ensures ∙ c.if-is_empty.false) in
    let held : 0 < length self.lines.held = omega (arith, ap length c.line.ensures.bytes, some) in
    let g = rw c.in-Ok-Some.field-0-is at c.in-Ok-Some.ensures.bad in (
      printed_of_bad_line c.in-Ok-Some.number,
      g.2,
      ends_with_bad_line self.number self.machine self.lines.held c.in-Ok-Some.number c.requires.unended held g.0 g.1,
    )
