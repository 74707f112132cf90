use Rattle.std.proofs.Common.{◌≡◌, length}
use Rattle.std.specs.Prelude.{map, take}
use Rattle.std.specs.String.{string_bytes}
use Rattle.pollrelay.proofs.words.texts_of.Given as goal

abbrev pub invariant-loop-word : goal.invariant-loop-word
invariant-loop-word l = (length l.texts.items ≡ l.word-index)
    × (map (λ text. text.now) l.texts.items ≡ map string_bytes (take l.word-index l.words))
