-- A front of a batch that was written, and the rest.
use Rattle.std.proofs.Common.{◌≡◌, ◌∙◌, sym, ap, subst, ℕ, ◌+◌, ◌-◌, ◌++◌, List, [], take, drop, length, arith}
use Rattle.std.proofs.Common.{Option, length-drop}
use Rattle.std.proofs.lemmas.List.{take-append-drop, take_all, drop-drop, drop_all}
use Rattle.std.proofs.lemmas.Bool.{eqb-true, eq-eqb}
use Rattle.std.specs.Prelude.{◌↔◌, ◌≤◌, IsTrue, nat_eq}
use Rattle.std.specs.Io.KnownBytes.{Appends}
use Rattle.log_writer.specs.Batch.{WritesFront}

-- nothing is left of a list exactly where as many bytes of it are written as it has
pub is_written : (taken : List ℕ) (written len : ℕ) (rest : List ℕ) → written ≤ length taken → len ≡ length taken
    → drop written taken ≡ rest → IsTrue (nat_eq written len) ↔ (rest ≡ [])
is_written taken written len rest fits all is = (
  (λ yes. let same : written ≡ len = eqb-true written len yes in
      sym is ∙ drop_all written taken (omega (arith, same, all))),
  (λ none. let empty : length (drop written taken) ≡ 0 = ap length (is ∙ none) in
      eq-eqb written len (omega (arith, all, fits, length-drop written taken, empty))),
)

-- so many bytes of a slice of the rest are a front of the rest, and what is behind them is left
pub front_of_rest : (taken : List ℕ) (written count : ℕ) (held held' : Option (List ℕ))
    → Appends held held' (take count (take (length taken - written) (drop written taken)))
    → WritesFront (drop written taken) (drop (written + count) taken) held held'
front_of_rest taken written count held held' appends =
    let rest : List ℕ = drop written taken in
    let whole : take (length taken - written) rest ≡ rest =
    take_all (length taken - written) rest (omega (arith, length-drop written taken)) in (
      take count rest,
      sym (take-append-drop count rest) ∙ ap (λ (l : List ℕ). take count rest ++ l) (drop-drop count written taken),
      subst (λ (l : List ℕ). Appends held held' (take count l)) whole appends,
    )
