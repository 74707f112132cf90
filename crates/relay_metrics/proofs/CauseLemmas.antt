-- The figure of one cause more.
use Rattle.std.proofs.Common.{◌≡◌, ℕ, ◌+◌, ◌<◌, List, [], ◌∷◌, ◌++◌, length, take, get_or, min, arith}
use Rattle.std.specs.List.{flat_map, zip}
use Rattle.std.proofs.lemmas.Grind.{common_steps}
use Rattle.std.proofs.lemmas.List.{take_more, take_all}
use Rattle.std.proofs.lemmas.List.Concat.{flat_map-append}
use Rattle.std.proofs.lemmas.Slice.Zip.{get_or-zip, length-zip}
use Rattle.relay_metrics.specs.declared.family.Family.{Family}
use Rattle.relay_metrics.specs.Text.{cause_text, counted_text}

-- the figures of the first causes
abbrev pub front_text : Family → List ℕ → List (List ℕ) → List ℕ → ℕ → List ℕ
front_text f rule causes counts place = flat_map (counted_text f rule) (take place (zip causes counts))

pub front_more : (f : Family) (rule : List ℕ) (causes : List (List ℕ)) (counts : List ℕ) (place : ℕ) →
    place < length causes → place < length counts →
    front_text f rule causes counts (place + 1)
    ≡ front_text f rule causes counts place ++ cause_text f rule (get_or causes place []) (get_or counts place 0)
front_more f rule causes counts place here there =
    let long = length-zip causes counts in
    let within : place < length (zip causes counts) = omega (arith, long, here, there) in
    let more = take_more (zip causes counts) place ([], 0) within in
    let one = get_or-zip causes counts place ([], 0) here there in
    let split = flat_map-append (counted_text f rule) (take place (zip causes counts))
    (get_or (zip causes counts) place ([], 0) ∷ []) in
    grind (arith, common_steps, more, one, split)

pub front_whole : (causes : List (List ℕ)) (counts : List ℕ) →
    take (min (length causes) (length counts)) (zip causes counts) ≡ zip causes counts
front_whole causes counts =
    let long = length-zip causes counts in
    take_all (min (length causes) (length counts)) (zip causes counts) (omega (arith, long))
