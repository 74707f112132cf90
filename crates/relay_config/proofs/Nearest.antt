-- The nearest of the keys that were looked at so far.
use Rattle.std.proofs.Common.{◌≡◌, ◌∙◌, ◌⊎◌, sym, subst, ap, refl, inl, inr, ℕ, ◌+◌, ◌<◌, ◌≤◌, List, get_or, take, length, Option, Some, None, arith}
use Rattle.std.specs.Prelude.{All, nat_eq}
use Rattle.std.specs.Str.{chars}
use Rattle.std.proofs.lemmas.Bool.{cases_lt}
use Rattle.std.proofs.lemmas.Option.{slice_get_read}
use Rattle.std.proofs.lemmas.List.{get_or-take, get_or_default, length-take, take_all}
use Rattle.strsim.specs.Edits.{levenshtein_row}
use Rattle.relay_config.specs.Fault.{key_word}
use Rattle.relay_config.specs.LookedUp.{AreNearest, edits}
use Rattle.relay_config.specs.declared.fault.Key.{Key}
use Rattle.relay_config.specs.declared.looked_up.TheConstants.{MAX_EDITS, MAX_NEAR_BYTES}

-- this key, which so many edits are from the word, is the first of the nearest among so many first keys
pub record IsNearestOf (known : List Key) (count : ℕ) (word : List ℕ) (key : Key) (least : ℕ) : Type 0
  where
    pub place : ℕ
    pub within : place < count
    pub here : key ≡ get_or known place key
    pub far : edits word key ≡ least
    pub near : least ≤ MAX_EDITS
    pub nearest : All (λ other. least ≤ edits word other) (take count known)
    pub first : All (λ other. least < edits word other) (take place known)

-- what was found among so many first keys
abbrev pub FoundIn : List Key → ℕ → List ℕ → Option Key → ℕ → Type 0
FoundIn known count word (Some key) least = IsNearestOf known count word key least
FoundIn known count word None least =
    (least ≡ MAX_EDITS + 1) × All (λ other. MAX_EDITS < edits word other) (take count known)

-- what holds of each of the first elements and of the next holds of one more
all_more : {X : Type 0} (P : X → Type 0) (xs : List X) (i : ℕ) (x : X) → i < length xs → x ≡ get_or xs i x
    → All P (take i xs) → P x → All P (take (i + 1) xs)
all_more {X} P xs i x within is before own k d below =
    by_place (cases_lt k i)
  where
    fits : k < i + 1
    fits = grind (arith, below, length-take (i + 1) xs)

    by_place : (k < i) ⊎ (i ≤ k) → P (get_or (take (i + 1) xs) k d)
    by_place (inl lower) =
        subst P (get_or-take i xs k d lower ∙ sym (get_or-take (i + 1) xs k d fits))
        (before k d (grind (arith, lower, within, length-take i xs)))
    by_place (inr higher) =
        let same : k ≡ i = omega (arith, fits, higher) in
        subst P (is ∙ get_or_default xs i x d within ∙ sym (ap (λ n. get_or xs n d) same) ∙ sym (get_or-take (i + 1) xs k d fits)) own

-- a fact for each element, made weaker
all_weaker : {X : Type 0} (P Q : X → Type 0) (xs : List X) → ((x : X) → P x → Q x) → All P xs → All Q xs
all_weaker P Q xs weaker all k d below = weaker (get_or xs k d) (all k d below)

module _ (known : List Key) (i : ℕ) (word : List ℕ) (key : Key) (within : i < length known) (is : key ≡ get_or known i key) where
  -- a nearer key is found, where all that were found before are farther
  pub nearer : (found : Option Key) (least : ℕ) → edits word key < least → FoundIn known i word found least
      → FoundIn known (i + 1) word (Some key) (edits word key)
  nearer None least less before = record {
    place = i;
    within = omega arith;
    here = is;
    far = refl;
    near = omega (arith, less, before.0);
    nearest = all_more (λ other. edits word key ≤ edits word other) known i key within is
        (all_weaker (λ other. MAX_EDITS < edits word other) (λ other. edits word key ≤ edits word other) (take i known)
        (λ other far. omega (arith, far, less, before.0)) before.1) (omega arith);
    first = all_weaker (λ other. MAX_EDITS < edits word other) (λ other. edits word key < edits word other) (take i known)
        (λ other far. omega (arith, far, less, before.0)) before.1;
  }
  nearer (Some found) least less before = record {
    place = i;
    within = omega arith;
    here = is;
    far = refl;
    near = omega (arith, less, before.near);
    nearest = all_more (λ other. edits word key ≤ edits word other) known i key within is
        (all_weaker (λ other. least ≤ edits word other) (λ other. edits word key ≤ edits word other) (take i known)
        (λ other far. omega (arith, far, less)) before.nearest) (omega arith);
    first = all_weaker (λ other. least ≤ edits word other) (λ other. edits word key < edits word other) (take i known)
        (λ other far. omega (arith, far, less)) before.nearest;
  }

  -- one that isn't nearer changes nothing
  pub not_nearer : (found : Option Key) (least : ℕ) → least ≤ edits word key → FoundIn known i word found least
      → FoundIn known (i + 1) word found least
  not_nearer None least more before =
      (before.0, all_more (λ other. MAX_EDITS < edits word other) known i key within is before.1 (omega (arith, more, before.0)))
  not_nearer (Some found) least more before = record {
    place = before.place;
    within = omega (arith, before.within);
    here = before.here;
    far = before.far;
    near = before.near;
    nearest = all_more (λ other. least ≤ edits word other) known i key within is before.nearest more;
    first = before.first;
  }

-- the same of the key at an index, whose word was compared
module _ (known : List Key) (i : ℕ) (word bytes : List ℕ) (other : Key) (count : ℕ) (within : i < length known)
    (spelled : bytes ≡ key_word (get_or known i other))
    (counted : count ≡ levenshtein_row nat_eq (chars bytes) (chars word) (length (chars word))) where
  far : count ≡ edits word (get_or known i other)
  far = counted ∙ ap (λ (it : List ℕ). levenshtein_row nat_eq (chars it) (chars word) (length (chars word))) spelled

  pub found_nearer : (found best : Option Key) (least next : ℕ) → count < least → best ≡ Some (get_or known i other) → next ≡ count
      → FoundIn known i word found least → FoundIn known (i + 1) word best next
  found_nearer found best least next less is_best is_next before =
      let key : Key = get_or known i other in
      let less_far : edits word key < least = rw (← far) less in
      rw (is_best, is_next, far) (nearer known i word key within (get_or_default known i other key within) found least less_far before)

  pub found_farther : (found best : Option Key) (least next : ℕ) → least ≤ count → best ≡ found → next ≡ least
      → FoundIn known i word found least → FoundIn known (i + 1) word best next
  found_farther found best least next more is_best is_next before =
      let key : Key = get_or known i other in
      let more_far : least ≤ edits word key = rw (← far) more in
      rw (is_best, is_next) (not_nearer known i word key within (get_or_default known i other key within) found least more_far before)

-- nothing is found before the first
pub found_first : (known : List Key) (word : List ℕ) → FoundIn known 0 word None (MAX_EDITS + 1)
found_first known word = (refl, λ k d below. absurd (omega (arith, below)))

-- what was found among all is what is meant
pub found_all : (known : List Key) (count : ℕ) (word : List ℕ) (found : Option Key) (least : ℕ) → count ≡ length known
    → length word ≤ MAX_NEAR_BYTES → FoundIn known count word found least → AreNearest known word found
found_all known count word None least all short before =
    λ _. subst (λ keys. All (λ other. MAX_EDITS < edits word other) keys) (take_all count known (omega (arith, all))) before.1
found_all known count word (Some key) least all short before = (
  short,
  record {
    place = before.place;
    here = slice_get_read known (length known) before.place key refl (omega (arith, before.within, all)) before.here;
    near = rw before.far before.near;
    nearest = subst (λ keys. All (λ other. edits word key ≤ edits word other) keys) (take_all count known (omega (arith, all)))
        (rw before.far before.nearest);
    first = rw before.far before.first;
  },
)
