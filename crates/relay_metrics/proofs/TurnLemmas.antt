-- The turns of one loop more.
use Rattle.std.proofs.Common.{◌≡◌, ℕ, ◌+◌, ◌<◌, List, [], ◌∷◌, ◌++◌, length, take, get_or, arith}
use Rattle.std.specs.Prelude.{codes}
use Rattle.std.specs.Fmt.{decimal}
use Rattle.std.proofs.lemmas.Grind.{common_steps}
use Rattle.std.proofs.lemmas.List.{take_more}
use Rattle.relay_metrics.specs.declared.family.Family.TheVariants as family
use Rattle.relay_metrics.specs.Sample.{sample_text}
use Rattle.relay_metrics.specs.Text.{turns_from}

-- the turns of one loop
abbrev pub turn_text : ℕ → ℕ → List ℕ
turn_text place n = sample_text family.Turns (codes "loop") (decimal place) n

pub turns_from-end : (place : ℕ) (turns : List ℕ) (n : ℕ) →
    turns_from place (turns ++ n ∷ []) ≡ turns_from place turns ++ turn_text (place + length turns) n
unfolding turns_from
turns_from-end place [] n = grind (arith, common_steps)
turns_from-end place (m ∷ turns) n =
    let rest = turns_from-end (place + 1) turns n in grind (arith, common_steps, rest)

pub turns_from-more : (turns : List ℕ) (place : ℕ) → place < length turns →
    turns_from 0 (take (place + 1) turns) ≡ turns_from 0 (take place turns) ++ turn_text place (get_or turns place 0)
turns_from-more turns place within =
    let more = take_more turns place 0 within in
    let end = turns_from-end 0 (take place turns) (get_or turns place 0) in
    grind (arith, common_steps, more, end)
