use Rattle.std.proofs.Common.{◌≡◌, ◌++◌, take, drop}
use Rattle.config_values.specs.Time.{behind_digits, digits_before}
use Rattle.config_values.proofs.time.split_digits.Given as goal

abbrev pub invariant-loop-at : goal.invariant-loop-at
invariant-loop-at l =
    (digits_before l.text ≡ take l.at l.text ++ digits_before (drop l.at l.text))
    × (behind_digits l.text ≡ behind_digits (drop l.at l.text))
