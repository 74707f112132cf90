use Rattle.std.proofs.Common.{arith}
use Rattle.std.proofs.lemmas.Map.Text.{text_keys}
use Rattle.key_values.proofs.store.carry_out.Goals as goal

pub returns-in_ok-insert-in-Set-clause-does : goal.returns-in_ok-insert-in-Set-clause-does
returns-in_ok-insert-in-Set-clause-does c = grind (arith, text_keys)

pub returns-after-remove-clause-does : goal.returns-after-remove-clause-does
returns-after-remove-clause-does c = grind (arith, text_keys)
