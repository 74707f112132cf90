-- A step changes the fields that it names.
use Rattle.std.proofs.Common.{◌≡◌}
use Rattle.lockword_core.proofs.Words.{ℕ, ap, Word, Kind, IsWord, packed, field_step, stepped_word}
use Rattle.lockword_core.specs.FieldStep.{packed_result}
use Rattle.lockword_core.proofs.WordFields.{unpacks}

pub step_same : (f : Word) (k : Kind) (n : ℕ) → IsWord f → packed f ≡ n
    → stepped_word n k ≡ packed_result (field_step f k)
step_same f k n fits e = ap (λ (g : Word). packed_result (field_step g k)) (unpacks f n fits e)
