use Rattle.std.proofs.Common.{◌≡◌, ◌∙◌, ◌<◌, ◌≤◌, ◌-◌, ◌^◌, Bool, true, false, ap, cond, get_or, length, take, ℕ, arith}
use Rattle.std.proofs.lemmas.Bool.Decides.{nat_tests}
use Rattle.std.proofs.lemmas.List.{get_or_default}
use Rattle.relay_config.specs.Fronts.{begins_character, ends_line}
use Rattle.relay_config.proofs.Places.{line_ended, line_same, next_line, same_line}
use Rattle.relay_config.proofs.config.place_of.Goals as goal
use Rattle.relay_config.proofs.config.place_of.Goals.{then-byte-eq10, else-byte-eq10+then-byte-lt128, then-byte-lt128-via-then-byte-lt128, then-byte-lt128-via-else-byte-lt128+then-byte-gt191, else-byte-eq10+else-byte-lt128+else-byte-gt191}

pub loop-byte-preserved : goal.loop-byte-preserved
loop-byte-preserved c =
    let xs = take c.min.result c.args.text.now in
    let i = c.loop-byte.byte-index in
    let b = get_or xs i 0 in
    let within : i < length xs = omega arith in
    let is : b ≡ get_or xs i b = get_or_default xs i 0 b within in
    let before = c.loop-byte.invariant in
    elim c.if-byte-eq10.branch [
      | then-byte-eq10 w ↦
          let ends : ends_line b ≡ true = grind (arith, nat_tests, w.if-byte-eq10.true) in
          record {
            line = line_ended xs i b within is c.loop-byte.line c.if-byte-eq10.line ends (w.line-is ∙ w.saturating_add-line.ensures) before.line;
            column = rw w.column-is (next_line xs i b within is ends);
          }
      | else-byte-eq10+then-byte-lt128 w ↦
          let goes_on : ends_line b ≡ false = grind (arith, nat_tests, w.if-byte-eq10.false) in
          let counts : begins_character b ≡ true = elim w.then-byte-lt128.branch [
            | then-byte-lt128-via-then-byte-lt128 w' ↦ grind (arith, nat_tests, w'.if-byte-lt128.true)
            | then-byte-lt128-via-else-byte-lt128+then-byte-gt191 w' ↦ grind (arith, nat_tests, w'.if-byte-gt191.true)
          ] in
          let one : ◌≡◌ {A = ℕ} (cond (begins_character b) 1 0) 1 = ap (λ (begins : Bool). cond {A = ℕ} begins 1 0) counts in
          record {
            line = rw w.line-is (line_same xs i b within is c.loop-byte.line goes_on before.line);
            column = same_line xs i b within is c.loop-byte.column c.if-byte-eq10.column goes_on
                (omega (arith, one, w.column-is, w.saturating_add-column.ensures)) before.column;
          }
      | else-byte-eq10+else-byte-lt128+else-byte-gt191 w ↦
          let goes_on : ends_line b ≡ false = grind (arith, nat_tests, w.if-byte-eq10.false) in
          let counts : begins_character b ≡ false = grind (arith, nat_tests, w.if-byte-lt128.false, w.if-byte-gt191.false) in
          let none : ◌≡◌ {A = ℕ} (cond (begins_character b) 1 0) 0 = ap (λ (begins : Bool). cond {A = ℕ} begins 1 0) counts in
          let within_word : c.loop-byte.column ≤ 2 ^ 64 - 1 = omega (arith, before.column.counted) in
          record {
            line = rw w.line-is (line_same xs i b within is c.loop-byte.line goes_on before.line);
            column = same_line xs i b within is c.loop-byte.column c.if-byte-eq10.column goes_on
                (omega (arith, none, w.column-is, within_word)) before.column;
          }
    ]
