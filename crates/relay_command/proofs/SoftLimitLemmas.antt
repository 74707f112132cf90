-- The first line of a text, and those behind it.
use Rattle.std.specs.Prelude.{◌≡◌, ◌==◌, ◌<◌, ◌≤◌, ◌+◌, ℕ, true, false, List, [], ◌∷◌, Option, Some, None, length, take}
use Rattle.std.specs.Prelude.{drop, find, cond}
use Rattle.std.specs.Option.{option_and_then}
use Rattle.std.specs.List.{before_first, after_first, position_or_len}
use Rattle.std.proofs.Common.{◌∙◌, arith, ap, sym}
use Rattle.std.proofs.lemmas.Bool.Decides.{nat_tests}
use Rattle.std.proofs.lemmas.List.{drop_all}
use Rattle.stream_base.specs.Decimal.{number_of}
use Rattle.stream_base.specs.Lines.{lines_of}
use Rattle.relay_command.specs.SoftLimit.{first_word, soft_limit, tells_open_files}

-- the first line is what stands before the first line feed, and the others stand behind it
lines_cut : (text : List ℕ) → 0 < length text
    → lines_of text ≡ before_first (λ b. b == 10) text ∷ lines_of (after_first (λ b. b == 10) text)
lines_cut [] some = absurd (omega arith)
lines_cut (b ∷ []) some = grind (arith, nat_tests)
lines_cut (b ∷ c ∷ text) some = grind (arith, nat_tests, lines_cut (c ∷ text) (omega arith))

lines_at : (text : List ℕ) (end : ℕ) → 0 < length text → end ≡ position_or_len (λ b. b == 10) text
    → lines_of text ≡ take end text ∷ lines_of (drop (end + 1) text)
lines_at text end some at =
    lines_cut text some ∙ ap (λ k. take k text ∷ lines_of (drop (k + 1) text)) (sym at)

abbrev limit_in : List (List ℕ) → Option ℕ
limit_in lines = option_and_then (λ line. number_of (first_word (drop 14 line))) (find tells_open_files lines)

-- a first line that tells the limit
pub told : (text : List ℕ) (end : ℕ) → 0 < length text → end ≡ position_or_len (λ b. b == 10) text
    → tells_open_files (take end text) ≡ true → soft_limit text ≡ number_of (first_word (drop 14 (take end text)))
told text end some at tells =
    let rest = lines_of (drop (end + 1) text) in
    ap limit_in (lines_at text end some at)
    ∙ ap (λ t. option_and_then (λ line. number_of (first_word (drop 14 line)))
    (cond t (Some (take end text)) (find tells_open_files rest))) tells

-- a first line that doesn't
pub untold : (text : List ℕ) (end : ℕ) → 0 < length text → end ≡ position_or_len (λ b. b == 10) text
    → tells_open_files (take end text) ≡ false → soft_limit text ≡ soft_limit (drop (end + 1) text)
untold text end some at tells =
    let rest = lines_of (drop (end + 1) text) in
    ap limit_in (lines_at text end some at)
    ∙ ap (λ t. option_and_then (λ line. number_of (first_word (drop 14 line)))
    (cond t (Some (take end text)) (find tells_open_files rest))) tells

-- the same of the last line
pub untold_last : (text : List ℕ) (end : ℕ) → 0 < length text → end ≡ position_or_len (λ b. b == 10) text
    → tells_open_files (take end text) ≡ false → length text ≤ end → soft_limit text ≡ None
untold_last text end some at tells last =
    untold text end some at tells ∙ ap soft_limit (drop_all (end + 1) text (omega arith))
