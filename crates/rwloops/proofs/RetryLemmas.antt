-- Rows in a list of outcomes, by tests and by every way to cut the list.
use Rattle.std.proofs.Common.{◌≡◌, ◌+◌, ◌≤◌, Bool, true, false, ◌&&◌, nat_le, List, [], ◌∷◌, ◌++◌, length, cond, refl}
use Rattle.std.proofs.Common.{sym, ap, subst, IsTrue, arith}
use Rattle.std.specs.List.{list_all}
use Rattle.std.proofs.lemmas.Bool.{and_parts}
use Rattle.std.proofs.lemmas.Bool.Decides.{nat_tests}
use Rattle.std.proofs.lemmas.List.Sums.{AllPass-from_list_all, list_all-from_AllPass}
use Rattle.rwloops.specs.declared.limits.TheConstants.{MAX_RETRIES}
use Rattle.rwloops.specs.RetryBound.{newest_row, has_short_rows, HasNoLongRow}

-- two tests that pass pass together
pub both : (a b : Bool) → a ≡ true → b ≡ true → (a && b) ≡ true
both a b p q = cc (ap (λ x. x && b) p)

-- a row that passes is no longer than the newest row of the list that it heads
row_in_newest : {A : Type 0} (test : A → Bool) (row older : List A) → list_all test row ≡ true →
    length row ≤ newest_row test (row ++ older)
row_in_newest test [] older all = omega arith
row_in_newest test (outcome ∷ row) older all =
    let parts = and_parts (test outcome) (list_all test row) all in
    let rest = row_in_newest test row older parts.1 in
    subst (λ b. length (outcome ∷ row) ≤ cond b (newest_row test (row ++ older) + 1) 0) (sym parts.0)
    (omega (arith, rest))

-- short rows by the test are short however the list is cut
no_long_row : {A : Type 0} (test : A → Bool) (newer row older : List A) →
    has_short_rows test (newer ++ (row ++ older)) ≡ true → list_all test row ≡ true → length row ≤ MAX_RETRIES
no_long_row test [] [] older short all = omega arith
no_long_row test [] (outcome ∷ row) older short all =
    let long = row_in_newest test (outcome ∷ row) older all in
    let here = (and_parts (nat_le (newest_row test (outcome ∷ (row ++ older))) MAX_RETRIES) _ short).0 in
    grind (arith, nat_tests, long, here)
no_long_row test (outcome ∷ newer) row older short all =
    no_long_row test newer row older (and_parts (nat_le
    (newest_row test (outcome ∷ (newer ++ (row ++ older)))) MAX_RETRIES) _ short).1 all

-- the newest row of a list, and what is older
record NewestRow {A : Type 0} (test : A → Bool) (outcomes : List A) : Type 0 where
  row : List A
  older : List A
  is : outcomes ≡ row ++ older
  all : list_all test row ≡ true
  long : length row ≡ newest_row test outcomes

newest_row_with : {A : Type 0} (test : A → Bool) (outcome : A) (earlier : List A) → NewestRow test earlier →
    (b : Bool) → test outcome ≡ b → NewestRow test (outcome ∷ earlier)
newest_row_with test outcome earlier rest true passes = record {
  row = outcome ∷ rest.row;
  older = rest.older;
  is = ap (λ os. outcome ∷ os) rest.is;
  all = both _ _ passes rest.all;
  long = subst (λ b. length (outcome ∷ rest.row) ≡ cond b (newest_row test earlier + 1) 0) (sym passes)
      (omega (arith, rest.long));
}
newest_row_with test outcome earlier rest false fails = record {
  row = [];
  older = outcome ∷ earlier;
  is = refl;
  all = refl;
  long = subst (λ b. 0 ≡ cond b (newest_row test earlier + 1) 0) (sym fails) refl;
}

newest_row_of : {A : Type 0} (test : A → Bool) (outcomes : List A) → NewestRow test outcomes
newest_row_of test [] = record { row = []; older = []; is = refl; all = refl; long = refl }
newest_row_of test (outcome ∷ earlier) = newest_row_with test outcome earlier (newest_row_of test earlier)
    (test outcome) refl

-- a list that no cut shows a long row in has short rows by the test
pub short_rows_by_cuts : {A : Type 0} (test : A → Bool) (outcomes : List A) → HasNoLongRow test outcomes →
    has_short_rows test outcomes ≡ true
short_rows_by_cuts test [] no_long = refl
short_rows_by_cuts test (outcome ∷ earlier) no_long =
    let newest = newest_row_of test (outcome ∷ earlier) in
    let short = no_long [] newest.row newest.older newest.is (AllPass-from_list_all test newest.row newest.all) in
    let long = newest.long in
    let here : nat_le (newest_row test (outcome ∷ earlier)) MAX_RETRIES ≡ true =
    grind (arith, nat_tests, short, long) in
    both _ _ here (short_rows_by_cuts test earlier
    (λ newer row older is all. no_long (outcome ∷ newer) row older (ap (λ os. outcome ∷ os) is) all))

-- short rows by the test show no long row by any cut
pub short_rows : {A : Type 0} (test : A → Bool) (outcomes : List A) → IsTrue (has_short_rows test outcomes) →
    HasNoLongRow test outcomes
short_rows test outcomes short newer row older is all =
    no_long_row test newer row older (subst (λ os. has_short_rows test os ≡ true) is short)
    (list_all-from_AllPass test row all)

-- what is older than some outcomes has short rows with them
pub short_rows_of_older : {A : Type 0} (test : A → Bool) (newer older : List A) →
    IsTrue (has_short_rows test (newer ++ older)) → IsTrue (has_short_rows test older)
short_rows_of_older test [] older short = short
short_rows_of_older test (outcome ∷ newer) older short =
    short_rows_of_older test newer older (and_parts
    (nat_le (newest_row test (outcome ∷ (newer ++ older))) MAX_RETRIES) _ short).1

-- what is older than some outcomes passes with them
pub list_all_of_older : {A : Type 0} (test : A → Bool) (newer older : List A) →
    IsTrue (list_all test (newer ++ older)) → IsTrue (list_all test older)
list_all_of_older test [] older all = all
list_all_of_older test (outcome ∷ newer) older all =
    list_all_of_older test newer older (and_parts (test outcome) _ all).1
