-- What was entered and left, by induction over it.
use Rattle.std.proofs.Common.{◌≡◌, ◌≢◌, ◌⊎◌, ◌∙◌, sym, ap, subst, inl, inr, ℕ, ◌+◌, ◌<◌, ◌≤◌, refl}
use Rattle.std.proofs.Common.{List, [], ◌∷◌, ◌++◌, Option, Some, None, arith}
use Rattle.std.proofs.lemmas.Bool.Decides.{eqb_tells, leb_tells}
use Rattle.std.specs.Ordering.{nat_cmp}
use Rattle.std.specs.BTreeMap.{is_at}
use Rattle.std.specs.Map.{lookup}
use Rattle.relay_shared.specs.declared.index.Standing.{Standing}
use Rattle.relay_shared.specs.declared.index.Standing.TheVariants.{Connection, Listener}
use Rattle.relay_admin.specs.declared.admin.shown.ShownSide.{ShownSide}
use Rattle.relay_admin.specs.declared.admin.shown.ShownSide.TheVariants as side
use Rattle.relay_shared.specs.Index.{Register, entered, id_count, IsFoundAt, EntersIndex, LeavesIndex}
use Rattle.relay_shared.specs.IndexLaws.{Move, Entered, Left, CameByMoves, Stands, WasGiven}
use Rattle.relay_shared.specs.IndexLaws.{WhatIsFoundStands, IdsAreGivenOnce, AnIdNamesOne}
use Rattle.relay_shared.proofs.IndexLists.{has_an_id}
use Rattle.relay_shared.proofs.IndexLookups.{found_behind, found_without, found_last, found_still, still_found}

-- an id is another, or not
same_or_not : (at id : ℕ) → (at ≡ id) ⊎ (at ≢ id)
same_or_not at id = elim (eqb_tells at id) [ inl same ↦ inl same.1 | inr other ↦ inr other.1 ]

module _ {C L : Type 0} where
  -- nothing stands in an empty index
  nothing_stands : (index : Register C L) (id : ℕ) → index.entries ≡ [] → entered index id ≡ None
  nothing_stands index id none = ap (λ entries. lookup (is_at (nat_cmp id)) entries) none

  -- what stands after an entry stood before, or is what was entered
  before_entry : (at id : ℕ) (old new : Register C L) (given standing : Standing C L)
      → EntersIndex old new at given → entered new id ≡ Some standing
      → (entered old id ≡ Some standing) ⊎ ((at ≡ id) × (given ≡ standing))
  before_entry at id old new given standing enters is =
      found_behind id at given standing old.entries
      (sym (ap (λ entries. lookup (is_at (nat_cmp id)) entries) enters.entries) ∙ is)

  -- what stands after something has left stood before, under another id
  before_leaving : (at id : ℕ) (old new : Register C L) (standing : Standing C L)
      → LeavesIndex old new at → entered new id ≡ Some standing
      → (at ≢ id) × (entered old id ≡ Some standing)
  before_leaving at id old new standing leaves is =
      found_without id at standing old.entries
      (sym (ap (λ index. lookup (is_at (nat_cmp id)) index.entries) leaves) ∙ is)

  -- what stands has ids below the next
  stands_below : (moves : List (Move C L)) (index : Register C L) → CameByMoves moves index
      → (id : ℕ) (standing : Standing C L) → entered index id ≡ Some standing
      → id + id_count standing ≤ index.next_id
  stands_below [] index none id standing is =
      let nothing = nothing_stands index id none in absurd (cc)
  stands_below (Entered at given ∷ before) index came id standing is =
      let is_next = came.2.given in let next = came.2.next_id in
      elim (before_entry at id came.0 index given standing came.2 is) [
        | inl earlier ↦ (let below = stands_below before came.0 came.1 id standing earlier in
            omega (arith, below, next))
        | inr now ↦ (let same = now.0 in let count : id_count given ≡ id_count standing = ap id_count now.1 in
            omega (arith, same, is_next, next, count))
      ]
  stands_below (Left at ∷ before) index came id standing is =
      let next : index.next_id ≡ came.0.next_id = ap (λ i. i.next_id) came.2 in
      let below = stands_below before came.0 came.1 id standing
      (before_leaving at id came.0 index standing came.2 is).1 in
      omega (arith, below, next)

  stands : (moves : List (Move C L)) (index : Register C L) → CameByMoves moves index
      → (id : ℕ) (standing : Standing C L) → entered index id ≡ Some standing
      → Stands moves id standing
  stands [] index none id standing is =
      let nothing = nothing_stands index id none in absurd (cc)
  stands (Entered at given ∷ before) index came id standing is =
      elim (before_entry at id came.0 index given standing came.2 is) [
        | inl earlier ↦ (let below = stands_below before came.0 came.1 id standing earlier in
            let is_next = came.2.given in let some = has_an_id standing in
            inr (
              (λ same. omega (arith, below, is_next, some, same)),
              stands before came.0 came.1 id standing earlier,
            ))
        | inr now ↦ inl now
      ]
  stands (Left at ∷ before) index came id standing is =
      let stood = before_leaving at id came.0 index standing came.2 is in
      (stood.0, stands before came.0 came.1 id standing stood.1)

  -- nothing stands under the next id
  next_is_free : (moves : List (Move C L)) (index : Register C L) → CameByMoves moves index
      → (found : Option (Standing C L)) → entered index index.next_id ≡ found
      → entered index index.next_id ≡ None
  next_is_free moves index came None is = is
  next_is_free moves index came (Some standing) is =
      let below = stands_below moves index came index.next_id standing is in
      let some = has_an_id standing in absurd (omega (arith, below, some))

  is_found : (moves : List (Move C L)) (index : Register C L) → CameByMoves moves index
      → (id : ℕ) (standing : Standing C L) → Stands moves id standing
      → entered index id ≡ Some standing
  is_found [] index none id standing is = absurd is
  is_found (Entered at given ∷ before) index came id standing is =
      ap (λ entries. lookup (is_at (nat_cmp id)) entries) came.2.entries
      ∙ elim is [
        | inl now ↦ (let free : entered came.0 at ≡ None =
            subst (λ n. entered came.0 n ≡ None) (sym came.2.given)
            (next_is_free before came.0 came.1 (entered came.0 came.0.next_id) refl) in
            subst (λ n. lookup (is_at (nat_cmp n)) (came.0.entries ++ (at, given) ∷ []) ≡ Some standing) now.0
            (found_last at given came.0.entries free ∙ ap Some now.1))
        | inr earlier ↦ still_found id at given standing came.0.entries
            (is_found before came.0 came.1 id standing earlier.1)
      ]
  is_found (Left at ∷ before) index came id standing is =
      ap (λ i. lookup (is_at (nat_cmp id)) i.entries) came.2
      ∙ found_still id at standing came.0.entries is.0 (is_found before came.0 came.1 id standing is.1)

  -- the ids of what stands are apart
  stand_apart : (moves : List (Move C L)) (index : Register C L) → CameByMoves moves index
      → (low high : ℕ) (one other : Standing C L) → entered index low ≡ Some one
      → entered index high ≡ Some other → low < high → low + id_count one ≤ high
  stand_apart [] index none low high one other is has below =
      let nothing = nothing_stands index low none in absurd (cc)
  stand_apart (Entered at given ∷ before) index came low high one other is has below =
      let is_next = came.2.given in
      elim (before_entry at low came.0 index given one came.2 is) [
        | inl earlier ↦ elim (before_entry at high came.0 index given other came.2 has) [
          | inl too ↦ stand_apart before came.0 came.1 low high one other earlier too below
          | inr now ↦ (let same = now.0 in
              let under = stands_below before came.0 came.1 low one earlier in
              omega (arith, under, same, is_next))
        ]
        | inr now ↦ elim (before_entry at high came.0 index given other came.2 has) [
          | inl earlier ↦ (let same = now.0 in let some = has_an_id other in
              let under = stands_below before came.0 came.1 high other earlier in
              absurd (omega (arith, under, some, same, is_next, below)))
          | inr too ↦ (let same = now.0 in let equal = too.0 in
              absurd (omega (arith, same, equal, below)))
        ]
      ]
  stand_apart (Left at ∷ before) index came low high one other is has below =
      stand_apart before came.0 came.1 low high one other
      (before_leaving at low came.0 index one came.2 is).1
      (before_leaving at high came.0 index other came.2 has).1 below

  -- the ids that were given are below the next
  given_below : (moves : List (Move C L)) (index : Register C L) → CameByMoves moves index → (id : ℕ)
      → WasGiven moves id → id < index.next_id
  given_below [] index none id given = absurd given
  given_below (Entered at standing ∷ before) index came id given =
      let is_next = came.2.given in let next = came.2.next_id in
      elim given [
        | inl now ↦ (let last = now.1 in omega (arith, last, is_next, next))
        | inr earlier ↦ (let below = given_below before came.0 came.1 id earlier in
            omega (arith, below, next))
      ]
  given_below (Left at ∷ before) index came id given =
      let next : index.next_id ≡ came.0.next_id = ap (λ i. i.next_id) came.2 in
      let below = given_below before came.0 came.1 id given in
      omega (arith, below, next)

  -- it is found within its ids
  found_within : (standing : Standing C L) (shown : ShownSide) (behind : ℕ)
      → IsFoundAt standing shown behind → behind + 1 ≤ id_count standing
  found_within (Connection connection) side.Client behind is = omega (arith, is)
  found_within (Connection connection) side.Target behind is = omega (arith, is)
  found_within (Connection connection) side.Listener behind is = absurd is
  found_within (Listener listener) side.Client behind is = absurd is
  found_within (Listener listener) side.Target behind is = absurd is
  found_within (Listener listener) side.Listener behind is = omega (arith, is)

  -- by one id it is found as one
  found_as_one : (standing : Standing C L) (first second : ShownSide) (behind : ℕ)
      → IsFoundAt standing first behind → IsFoundAt standing second behind → first ≡ second
  found_as_one (Connection connection) side.Client side.Client behind is has = refl
  found_as_one (Connection connection) side.Client side.Target behind is has =
      absurd (omega (arith, is, has))
  found_as_one (Connection connection) side.Client side.Listener behind is has = absurd has
  found_as_one (Connection connection) side.Target side.Client behind is has =
      absurd (omega (arith, is, has))
  found_as_one (Connection connection) side.Target side.Target behind is has = refl
  found_as_one (Connection connection) side.Target side.Listener behind is has = absurd has
  found_as_one (Connection connection) side.Listener second behind is has = absurd is
  found_as_one (Listener listener) side.Client second behind is has = absurd is
  found_as_one (Listener listener) side.Target second behind is has = absurd is
  found_as_one (Listener listener) side.Listener side.Client behind is has = absurd has
  found_as_one (Listener listener) side.Listener side.Target behind is has = absurd has
  found_as_one (Listener listener) side.Listener side.Listener behind is has = refl

  -- what an id names was entered under one id
  one_first : (moves : List (Move C L)) (index : Register C L) → CameByMoves moves index
      → (low high near far : ℕ) (one other : Standing C L) (first second : ShownSide)
      → low + near ≡ high + far → entered index low ≡ Some one → entered index high ≡ Some other
      → IsFoundAt one first near → IsFoundAt other second far → low < high → ⊥
  one_first moves index came low high near far one other first second same is has found also below =
      let apart = stand_apart moves index came low high one other is has below in
      let within = found_within one first near found in
      omega (arith, apart, within, same)

pub what_is_found_stands : {C L : Type 0} → WhatIsFoundStands C L
what_is_found_stands moves index came id standing =
    (stands moves index came id standing, is_found moves index came id standing)

pub ids_are_given_once : {C L : Type 0} → IdsAreGivenOnce C L
ids_are_given_once at standing before index came id from given =
    let is_next = came.2.given in let below = given_below before came.0 came.1 id given in
    absurd (omega (arith, is_next, below, from))

pub an_id_names_one : {C L : Type 0} → AnIdNamesOne C L
an_id_names_one moves index came id first second one other (low, near, sum, is, found) (high, far, total, has, also) =
    let same : low + near ≡ high + far = sym sum ∙ total in
    elim (same_or_not low high) [
      | inl equal ↦ (let both : one ≡ other = cc in
          let behind : near ≡ far = omega (arith, same, equal) in
          let here : IsFoundAt other first far =
          subst (λ s. IsFoundAt s first far) both (subst (λ n. IsFoundAt one first n) behind found) in
          (found_as_one other first second far here also, both))
      | inr differs ↦ elim (leb_tells high low) [
        | inl above ↦ (let under : high < low = omega (arith, above.1, differs) in
            absurd (one_first moves index came high low far near other one second first
            (sym same) has is also found under))
        | inr below ↦ absurd (one_first moves index came low high near far one other first second
            same is has found also below.1)
      ]
    ]
