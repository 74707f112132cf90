-- The bytes of paths and of names.
use Rattle.std.proofs.Common.{◌≡◌, ℕ, zero, suc, ◌<◌, List, [], ◌∷◌, true}
use Rattle.std.proofs.Common.{arith}
use Rattle.std.specs.Prelude.{slice_index}
use Rattle.std.specs.List.{list_all}
use Rattle.std.proofs.lemmas.Bool.Decides.{nat_tests}
use Rattle.text_reading.proofs.TextLemmas.{both}
use Rattle.config_values.specs.Addr.{is_visible}

visible_ascii : (x : ℕ) → is_visible x ≡ true → x < 128
visible_ascii x e = grind (arith, nat_tests)

pub all_ascii : (xs : List ℕ) → list_all is_visible xs ≡ true → (i : ℕ) → slice_index xs i < 128
all_ascii [] e i = omega arith
all_ascii (x ∷ xs) e zero = visible_ascii x (both (is_visible x) (list_all is_visible xs) e).0
all_ascii (x ∷ xs) e (suc i) = all_ascii xs (both (is_visible x) (list_all is_visible xs) e).1 i
