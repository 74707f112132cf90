use Rattle.std.proofs.Common.{◌≤◌, ◌<◌, ℕ, inl, inr, arith}
use Rattle.std.specs.Prelude.{◌⊎◌}
use Rattle.text_reading.proofs.NumberLemmas.{number_refused, number_outside, number_found, spells_none}
use Rattle.text_reading.proofs.number_between.Goals as goal

outside : (low high n : ℕ) → (n < low) ⊎ ((low ≤ n) × (high < n)) → low ≤ n → n ≤ high → ⊥
outside low high n (inl below) lo hi = omega arith
outside low high n (inr above) lo hi = let h : high < n = above.1 in omega arith

pub returns-in_default-clause-value : goal.returns-in_default-clause-value
returns-in_default-clause-value c =
    number_refused c.args.low c.args.high c.args.text.now (omega arith) c.in_default.ensures.refused

pub returns-then-n-low-clause-value : goal.returns-then-n-low-clause-value
returns-then-n-low-clause-value c = number_outside c.args.low c.args.high c.args.text.now c.in-Some.n (omega arith)
    (omega arith) c.in-Some.ensures.spelled (outside c.args.low c.args.high c.in-Some.n c.then-n-low.either)

pub returns-clause-value : goal.returns-clause-value
returns-clause-value c =
    number_found c.args.low c.args.high c.args.text.now c.in-Some.n (omega arith) c.in-Some.ensures.spelled
    c.if-n-low.false c.if-high-n.false

pub returns-then-n-low-clause-none : goal.returns-then-n-low-clause-none
returns-then-n-low-clause-none c =
    spells_none c.args.low c.args.high c.args.text.now (omega arith)
    (number_outside c.args.low c.args.high c.args.text.now c.in-Some.n (omega arith) (omega arith)
    c.in-Some.ensures.spelled (outside c.args.low c.args.high c.in-Some.n c.then-n-low.either))
