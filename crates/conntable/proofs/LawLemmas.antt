-- Look-ups in consistent tables, and tables that come later.
use Rattle.std.proofs.Common.{◌≡◌, ◌≢◌, ◌∙◌, sym, ap, subst, refl, ℕ, zero, suc, ◌+◌, ◌%◌, ◌≤◌, ◌<◌, inl, inr, List, []}
use Rattle.std.proofs.Common.{◌∷◌, ◌++◌, length, get_or, true, Option, Some, None, arith}
use Rattle.std.specs.Prelude.{All, AllPairs, eqb, ◌==◌, find, IfSome}
use Rattle.std.specs.List.Sorted.{IsStrictlyIncreasing}
use Rattle.std.specs.Option.{option_map}
use Rattle.std.proofs.lemmas.List.Elements.{All-cons, All-push, All-head, All-tail}
use Rattle.std.proofs.lemmas.List.{length-map, get_or-map}
use Rattle.std.proofs.lemmas.Bool.Decides.{eqb_tells}
use Rattle.conntable.specs.declared.table.Entry.{Entry}
use Rattle.conntable.specs.Token.{token_of, key_of}
use Rattle.conntable.specs.ConnTable.{Table, IsConsistent, HasNoId, value_with_token, value_with_id, ids_of}
use Rattle.conntable.specs.ConnTable.{first_id_of}
use Rattle.conntable.specs.Laws.{IsLater, same, inserted, removed, TokensNameTheirEntries, IdsNameTheirEntries}
use Rattle.conntable.specs.Laws.{RemovedNamesNothing, IdsRise, FirstIdIsLeast}
use Rattle.conntable.proofs.TokenLemmas.{same_id}
use Rattle.conntable.proofs.ConnTableLemmas.{ids_differ}

module _ {T : Type 0} where
  -- the value of the first entry whose number is this one
  abbrev value_at : (Entry T → ℕ) → ℕ → List (Entry T) → Option T
  value_at number n es = option_map (λ e. e.value) (find (λ e. number e == n) es)

  AllPairs-tail : (R : Entry T → Entry T → Type 0) (x : Entry T) (xs : List (Entry T)) → AllPairs R (x ∷ xs) →
      AllPairs R xs
  AllPairs-tail R x xs h = λ i j d below within. h (suc i) (suc j) d (omega arith) (omega arith)

  AllPairs-head : (R : Entry T → Entry T → Type 0) (x : Entry T) (xs : List (Entry T)) → AllPairs R (x ∷ xs) →
      All (R x) xs
  AllPairs-head R x xs h = λ k d within. h 0 (suc k) d (omega arith) (omega arith)

  -- no entry has this number: it finds nothing
  pub value_at-none : (number : Entry T → ℕ) (n : ℕ) (es : List (Entry T)) → All (λ e. number e ≢ n) es →
      value_at number n es ≡ None
  value_at-none number n [] h = refl
  value_at-none number n (e ∷ es) h = elim (eqb_tells (number e) n) [
    | inl same_number ↦ absurd (All-head (λ f. number f ≢ n) e es h same_number.1)
    | inr other ↦ rw other.0 (value_at-none number n es (All-tail (λ f. number f ≢ n) e es h))
  ]

  -- where no two entries have one number, an entry's number finds it
  pub value_at-own : (number : Entry T → ℕ) (es : List (Entry T)) (k : ℕ) (d : Entry T) →
      AllPairs (λ e f. number e ≢ number f) es → k < length es →
      value_at number (number (get_or es k d)) es ≡ Some (get_or es k d).value
  value_at-own number [] k d h within = absurd (omega arith)
  value_at-own number (e ∷ es) zero d h within = rw (same_tells (number e)) refl
    where
      same_tells : (n : ℕ) → eqb n n ≡ true
      same_tells n = elim (eqb_tells n n) [ inl same_number ↦ same_number.0 | inr other ↦ absurd (other.1 refl) ]
  value_at-own number (e ∷ es) (suc k) d h within = elim (eqb_tells (number e) (number (get_or es k d))) [
    | inl same_number ↦ absurd (AllPairs-head (λ f g. number f ≢ number g) e es h k d (omega arith) same_number.1)
    | inr other ↦ rw other.0 (value_at-own number es k d (AllPairs-tail (λ f g. number f ≢ number g) e es h)
        (omega arith))
  ]

module _ {T : Type 0} where
  -- no two entries of a consistent table have one token
  tokens_differ : (t : Table T) → IsConsistent t → AllPairs (λ e f. e.token ≢ f.token) t.entries
  tokens_differ t is = λ i j d below within.
      let before : i < length t.entries = omega arith in
      let e = get_or t.entries i d in
      let f = get_or t.entries j d in
      let rises : e.id < f.id = is.rising i j d below within in
      differ e.token e.id f.token f.id (is.tokens i d before) (is.tokens j d within) rises
    where
      differ : (a i b j : ℕ) → a ≡ token_of (key_of a) i → b ≡ token_of (key_of b) j → i < j → a ≢ b
      differ a i b j made other below equal = let ids : i ≡ j =
          same_id (key_of a) i (key_of b) j (omega arith) (omega arith) (sym made ∙ equal ∙ other) in
          absurd (omega arith)

  -- without one entry, what holds of all still holds of all
  All-without : (P : Entry T → Type 0) (xs : List (Entry T)) (e : Entry T) (ys : List (Entry T)) →
      All P (xs ++ e ∷ ys) → All P (xs ++ ys)
  All-without P [] e ys h = All-tail P e ys h
  All-without P (x ∷ xs) e ys h = All-cons P x (xs ++ ys) (All-head P x (xs ++ e ∷ ys) h)
      (All-without P xs e ys (All-tail P x (xs ++ e ∷ ys) h))

  -- an id that was given and that no entry has is given no more
  stays_away : (id : ℕ) {t later : Table T} → IsLater t later → id < t.next_id → HasNoId id t.entries →
      (id < later.next_id) × HasNoId id later.entries
  stays_away id same given away = (given, away)
  stays_away id (inserted {t} {u} {v} new token value before is adds) given away =
      let r = stays_away id before given away in
      let e : Entry T = record { id = new; token = token; value = value } in
      let next = adds.next_id in
      let below : id < u.next_id = r.0 in
      let other : new ≢ id = (λ equal. absurd (omega arith)) in
      (omega arith, subst (HasNoId id) (sym adds.entries) (All-push (λ f. f.id ≢ id) u.entries e r.1 other))
  stays_away id (removed {t} {u} {v} old value before takes) given away =
      let r = stays_away id before given away in
      let e : Entry T = record { id = old; token = takes.token; value = value } in
      let below : id < u.next_id = r.0 in
      let next = takes.next_id in (
        omega arith,
        subst (HasNoId id) (sym takes.is)
            (All-without (λ f. f.id ≢ id) takes.before e takes.after (subst (HasNoId id) takes.was r.1)),
      )

  -- no entry has a token that is made of an id which no entry has
  no_token : (t : Table T) (key id : ℕ) → key < 4096 → IsConsistent t → HasNoId id t.entries →
      All (λ e. e.token ≢ token_of key id) t.entries
  no_token t key id small is away = λ k d within equal.
      let e = get_or t.entries k d in
      away k d within (same_id (key_of e.token) e.id key id (low e.token) small (sym (is.tokens k d within) ∙ equal))
    where
      low : (n : ℕ) → n % 4096 < 4096
      low n = omega arith

  rises : (es : List (Entry T)) → AllPairs (λ e f. e.id < f.id) es → IsStrictlyIncreasing (ids_of es)
  rises [] h = λ k within. absurd (omega arith)
  rises (e ∷ es) h = λ k within.
      let long : length (ids_of (e ∷ es)) ≡ length (e ∷ es) = length-map (e ∷ es) (λ (f : Entry T). f.id) in
      let here : k < length (e ∷ es) = omega arith in
      let next : k + 1 < length (e ∷ es) = omega arith in
      rw (
        get_or-map (λ (f : Entry T). f.id) (e ∷ es) k e 0 here,
        get_or-map (λ (f : Entry T). f.id) (e ∷ es) (k + 1) e 0 next,
      ) (h k (k + 1) e (omega arith) next)

  least : (es : List (Entry T)) → AllPairs (λ e f. e.id < f.id) es →
      IfSome (first_id_of es) (λ id. All (λ e. id ≤ e.id) es)
  least [] h = tt
  least (e ∷ es) h = All-cons (λ f. e.id ≤ f.id) e es (omega arith)
      (λ k d within. let below = AllPairs-head (λ f g. f.id < g.id) e es h k d within in omega arith)

pub tokens_name_their_entries : {T : Type 0} → TokensNameTheirEntries T
tokens_name_their_entries {T} t is e (k, within, at) =
    let own = value_at-own (λ (f : Entry T). f.token) t.entries k e (tokens_differ t is) within in
    ap (λ (f : Entry T). value_with_token f.token t.entries) (sym at) ∙ own ∙ ap (λ (f : Entry T). Some f.value) at

pub ids_name_their_entries : {T : Type 0} → IdsNameTheirEntries T
ids_name_their_entries {T} t is e (k, within, at) =
    let own = value_at-own (λ (f : Entry T). f.id) t.entries k e (ids_differ t.entries is.rising) within in
    ap (λ (f : Entry T). value_with_id f.id t.entries) (sym at) ∙ own ∙ ap (λ (f : Entry T). Some f.value) at

pub removed_names_nothing : {T : Type 0} → RemovedNamesNothing T
removed_names_nothing {T} t later id key given away after is small =
    let gone = stays_away id after given away in (
      value_at-none (λ (f : Entry T). f.id) id later.entries gone.1,
      value_at-none (λ (f : Entry T). f.token) (token_of key id) later.entries (no_token later key id small is gone.1),
    )

pub ids_rise : {T : Type 0} → IdsRise T
ids_rise t is = rises t.entries is.rising

pub first_id_is_least : {T : Type 0} → FirstIdIsLeast T
first_id_is_least t is = least t.entries is.rising
