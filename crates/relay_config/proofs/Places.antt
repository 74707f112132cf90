-- The line and the column of a byte, one byte on.
use Rattle.std.proofs.Common.{◌≡◌, ◌∙◌, ◌⊎◌, inl, inr, sym, subst, ap, ℕ, ◌+◌, ◌-◌, ◌<◌, ◌≤◌, ◌^◌, min, List, [], ◌∷◌, ◌++◌, Bool, true, false, length, get_or, take, drop, cond, arith}
use Rattle.std.specs.Prelude.{All, count_by}
use Rattle.std.proofs.lemmas.Bool.{cases_lt}
use Rattle.std.proofs.lemmas.List.{drop-append-le, drop_all, get_or-take, get_or_append_left, get_or_at, get_or_default, length-append, length-drop, length-take-le, take_more}
use Rattle.std.proofs.lemmas.List.Sums.{sum_by_push}
use Rattle.relay_config.specs.Fronts.{IsInColumn, IsInLine, begins_character, ends_line}

-- what holds of each element and of one more holds of all of them
all_push : {X : Type 0} (P : X → Type 0) (xs : List X) (x : X) → All P xs → P x → All P (xs ++ x ∷ [])
all_push {X} P xs x before own k d below = by_place (cases_lt k (length xs))
  where
    by_place : (k < length xs) ⊎ (length xs ≤ k) → P (get_or (xs ++ x ∷ []) k d)
    by_place (inl lower) = subst P (sym (get_or_append_left xs (x ∷ []) d k lower)) (before k d lower)
    by_place (inr higher) =
        subst P (sym (get_or_at xs x [] d k (omega (arith, below, higher, length-append xs (x ∷ []))))) own

-- one element more passes a test, or doesn't
count_more : {X : Type 0} (p : X → Bool) (xs : List X) (x : X) → count_by p (xs ++ x ∷ []) ≡ count_by p xs + cond (p x) 1 0
count_more p xs x = sum_by_push (λ y. cond (p y) 1 0) xs x

module _ (xs : List ℕ) (i b : ℕ) (within : i < length xs) (is : b ≡ get_or xs i b) where
  more : take (i + 1) xs ≡ take i xs ++ b ∷ []
  more = take_more xs i b within ∙ ap (λ x. take i xs ++ x ∷ []) (sym is)

  size : length (take (i + 1) xs) ≡ i + 1
  size = length-take-le (i + 1) xs (omega (arith, within))

  size_before : length (take i xs) ≡ i
  size_before = length-take-le i xs (omega (arith, within))

  lines : count_by ends_line (take (i + 1) xs) ≡ count_by ends_line (take i xs) + cond (ends_line b) 1 0
  lines = ap (count_by ends_line) more ∙ count_more ends_line (take i xs) b

  -- a line feed ends a line
  pub line_ended : (line next : ℕ) → ends_line b ≡ true → next ≡ min (line + 1) (2 ^ 64 - 1)
      → IsInLine (take i xs) line → IsInLine (take (i + 1) xs) next
  line_ended line next ends is_next before =
      let grown : count_by ends_line (take (i + 1) xs) ≡ count_by ends_line (take i xs) + 1 =
      lines ∙ ap (λ (e : Bool). count_by ends_line (take i xs) + cond e 1 0) ends in
      omega (arith, is_next, before, grown)

  -- no other byte does
  pub line_same : (line : ℕ) → ends_line b ≡ false → IsInLine (take i xs) line → IsInLine (take (i + 1) xs) line
  line_same line goes_on before =
      let same : count_by ends_line (take (i + 1) xs) ≡ count_by ends_line (take i xs) + 0 =
      lines ∙ ap (λ (e : Bool). count_by ends_line (take i xs) + cond e 1 0) goes_on in
      omega (arith, before, same)

  -- behind a line feed a line begins
  pub next_line : ends_line b ≡ true → IsInColumn (take (i + 1) xs) 1
  next_line ends = record {
    start = i + 1;
    within = omega (arith, size);
    begins = λ _. ap ends_line (get_or-take (i + 1) xs (i + 1 - 1) 0 (omega arith) ∙ ap (λ n. get_or xs n 0) (omega arith) ∙ get_or_default xs i 0 b within ∙ sym is) ∙ ends;
    one_line = λ k d below. absurd (omega (arith, below, length-drop (i + 1) (take (i + 1) xs), size));
    counted = sym (ap (λ (rest : List ℕ). min (1 + count_by begins_character rest) (2 ^ 64 - 1)) (drop_all (i + 1) (take (i + 1) xs) (omega (arith, size))));
  }

  -- any other byte is one more of its line
  pub same_line : (column next : ℕ) → ends_line b ≡ false → next ≡ min (column + cond (begins_character b) 1 0) (2 ^ 64 - 1)
      → IsInColumn (take i xs) column → IsInColumn (take (i + 1) xs) next
  same_line column next goes_on is_next before =
      let rest : drop before.start (take (i + 1) xs) ≡ drop before.start (take i xs) ++ b ∷ [] =
      ap (drop before.start) more ∙ drop-append-le before.start (take i xs) (b ∷ []) before.within in
      record {
        start = before.start;
        within = omega (arith, before.within, size, size_before);
        begins = λ some. ap ends_line (get_or-take (i + 1) xs (before.start - 1) 0 (omega (arith, before.within, size_before))
            ∙ sym (get_or-take i xs (before.start - 1) 0 (omega (arith, some, before.within, size_before)))) ∙ before.begins some;
        one_line = subst (All (λ byte. ends_line byte ≡ false)) (sym rest)
            (all_push (λ byte. ends_line byte ≡ false) (drop before.start (take i xs)) b before.one_line goes_on);
        counted = is_next ∙ counted_more before.start column rest before.counted;
      }
    where
      counted_more : (start column : ℕ) → drop start (take (i + 1) xs) ≡ drop start (take i xs) ++ b ∷ []
          → column ≡ min (1 + count_by begins_character (drop start (take i xs))) (2 ^ 64 - 1)
          → min (column + cond (begins_character b) 1 0) (2 ^ 64 - 1) ≡ min (1 + count_by begins_character (drop start (take (i + 1) xs))) (2 ^ 64 - 1)
      counted_more start column rest counted =
          let grown : count_by begins_character (drop start (take (i + 1) xs)) ≡ count_by begins_character (drop start (take i xs)) + cond (begins_character b) 1 0 =
          ap (count_by begins_character) rest ∙ count_more begins_character (drop start (take i xs)) b in
          omega (arith, counted, grown)
