use Rattle.std.proofs.Common.{◌≡◌, ◌∙◌, sym, ap, subst, ℕ, ◌<◌, ◌≤◌, List, length, get_or, true, arith}
use Rattle.std.specs.Prelude.{◌==◌}
use Rattle.std.specs.Fmt.{decimal}
use Rattle.std.specs.Str.{IsUtf8}
use Rattle.std.proofs.lemmas.Bool.Decides.{nat_tests}
use Rattle.std.proofs.lemmas.Fmt.{IsAscii-decimal, decimal_nonempty}
use Rattle.std.proofs.lemmas.Str.{IsUtf8-from_ascii}
use Rattle.stream_base.proofs.DecimalLemmas.{decimal-no_plus, decimal-no_zeros, number_of-decimal, number_of-none}
use Rattle.stream_base.proofs.DecimalLemmas.{parsed_is_spelled, refused_is_none}
use Rattle.stream_base.proofs.decimal.parse_decimal.Goals as goal
use Rattle.stream_base.proofs.decimal.parse_decimal.Goals.{else-text-eq48-via-then-text-eq48+else-text-gt1}
use Rattle.stream_base.proofs.decimal.parse_decimal.Goals.{else-text-eq48-via-else-text-eq48}

-- a spelling is text
pub returns-in_default-clause-refused : goal.returns-in_default-clause-refused
returns-in_default-clause-refused c n h e =
    c.in_default.ensures.cases.0 (subst IsUtf8 (sym e) (IsUtf8-from_ascii (decimal n) (IsAscii-decimal n h)))

is_nothing : (n : ℕ) → 0 < n → (n == 0) ≡ true → ⊥
is_nothing n h e = grind (arith, nat_tests)

-- a spelling has a digit
pub returns-then-is_empty-clause-refused : goal.returns-then-is_empty-clause-refused
returns-then-is_empty-clause-refused c n h e =
    let some : 0 < length c.args.text.now = omega (arith, decimal_nonempty n h, ap length e) in
    is_nothing _ some (sym c.is_empty.ensures ∙ c.if-is_empty.true)

pub returns-then-text-eq43-clause-refused : goal.returns-then-text-eq43-clause-refused
returns-then-text-eq43-clause-refused c n h e = decimal-no_plus n c.args.text.now h e c.if-text-eq43.true

pub returns-then-text-gt1-clause-refused : goal.returns-then-text-gt1-clause-refused
returns-then-text-gt1-clause-refused c n h e = let short : length c.args.text.now ≤ 1 =
    decimal-no_zeros n c.args.text.now h e c.if-text-eq48.true in omega arith

-- what is left has no sign and no zeros in front
pub returns-in-Ok-parse-clause-spelled : goal.returns-in-Ok-parse-clause-spelled
returns-in-Ok-parse-clause-spelled c =
    let text : List ℕ = c.args.text.now in
    let lead : get_or text 0 0 ≡ 48 → length text ≤ 1 =
    elim c.else-text-eq48.branch [
      | else-text-eq48-via-then-text-eq48+else-text-gt1 w ↦ λ e. omega arith
      | else-text-eq48-via-else-text-eq48 w ↦ λ e. absurd (w.if-text-eq48.false e)
    ] in
    let parsed = rw c.in-Ok.ensures.cases.0 at c.parse.ensures.value.0 in
    let spelled = parsed_is_spelled text c.parse.result parsed c.if-text-eq43.false lead in
    rw c.in-Ok-parse.is at spelled

pub returns-in-Err-clause-refused : goal.returns-in-Err-clause-refused
returns-in-Err-clause-refused c =
    let parsed = rw c.in-Ok.ensures.cases.0 at c.parse.ensures.value.0 in
    let refused = refused_is_none c.args.text.now c.parse.result parsed c.if-text-eq43.false in
    rw c.in-Err.is at refused

pub returns-in_default-clause-value : goal.returns-in_default-clause-value
returns-in_default-clause-value c = sym (number_of-none c.args.text.now (returns-in_default-clause-refused c))

pub returns-then-is_empty-clause-value : goal.returns-then-is_empty-clause-value
returns-then-is_empty-clause-value c = sym (number_of-none c.args.text.now (returns-then-is_empty-clause-refused c))

pub returns-then-text-eq43-clause-value : goal.returns-then-text-eq43-clause-value
returns-then-text-eq43-clause-value c = sym (number_of-none c.args.text.now (returns-then-text-eq43-clause-refused c))

pub returns-then-text-gt1-clause-value : goal.returns-then-text-gt1-clause-value
returns-then-text-gt1-clause-value c = sym (number_of-none c.args.text.now (returns-then-text-gt1-clause-refused c))

pub returns-in-Err-clause-value : goal.returns-in-Err-clause-value
returns-in-Err-clause-value c = sym (number_of-none c.args.text.now (returns-in-Err-clause-refused c))

pub returns-in-Ok-parse-clause-value : goal.returns-in-Ok-parse-clause-value
returns-in-Ok-parse-clause-value c =
    sym (number_of-decimal c.args.text.now c.in-Ok-parse.n (returns-in-Ok-parse-clause-spelled c) (omega arith))
