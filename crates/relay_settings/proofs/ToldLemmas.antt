-- An address is told as a configuration spells it.
use Rattle.std.proofs.Common.{◌≡◌, ◌∙◌, ap, refl, sym, ℕ, List, ◌∷◌, ◌++◌, length, Bool, true, false, Some, None, append_assoc}
use Rattle.std.specs.Prelude.{IfSome, codes, if◌then◌else◌, nat_le, slice_index}
use Rattle.std.specs.Fmt.{decimal}
use Rattle.config_values.specs.Addr as config
use Rattle.relay_admin.specs.rules.Addr.{address_text, unix}
use Rattle.relay_settings.specs.Laws.{AreToldAsSpelled}

-- four numbers with dots between them and a text behind them, from the left and from the right
dotted_then : (a b c d rest : List ℕ)
    → ((((((a ++ codes ".") ++ b) ++ codes ".") ++ c) ++ codes ".") ++ d) ++ rest
    ≡ a ++ (46 ∷ (b ++ (46 ∷ (c ++ (46 ∷ (d ++ rest))))))
dotted_then a b c d rest =
    let one : List ℕ = a ++ codes "." in
    let two : List ℕ = one ++ b in
    let three : List ℕ = two ++ codes "." in
    let four : List ℕ = three ++ c in
    append_assoc (four ++ codes ".") d rest
    ∙ append_assoc four (codes ".") (d ++ rest)
    ∙ append_assoc three c (46 ∷ (d ++ rest))
    ∙ append_assoc two (codes ".") (c ++ (46 ∷ (d ++ rest)))
    ∙ append_assoc one b (46 ∷ (c ++ (46 ∷ (d ++ rest))))
    ∙ append_assoc a (codes ".") (b ++ (46 ∷ (c ++ (46 ∷ (d ++ rest)))))

path_told : (path : List ℕ) (short : Bool) → IfSome (if short then Some (unix path) else None)
    (λ known. address_text known ≡ config.address_text (config.unix path))
path_told path true = refl
path_told path false = tt

pub told_as_spelled : AreToldAsSpelled
told_as_spelled (config.v4 ip port) =
    ap (λ (t : List ℕ). codes "tcp:" ++ t) (sym (dotted_then (decimal (slice_index ip 0)) (decimal (slice_index ip 1))
    (decimal (slice_index ip 2)) (decimal (slice_index ip 3)) (58 ∷ decimal port)))
told_as_spelled (config.v6 ip scope port) = refl
told_as_spelled (config.unix path) = path_told path (nat_le (length path) 100)
told_as_spelled (config.name host port) = tt
