-- What the contracts of the index mean together, over all that was entered and left.
use Rattle.std.specs.Prelude.{◌≡◌, ◌≢◌, ◌↔◌, ◌⊎◌, ◌+◌, ◌≤◌, ℕ, List, [], ◌∷◌, Some}
use Rattle.relay_shared.specs.declared.index.Standing.{Standing}
use Rattle.relay_admin.specs.declared.admin.shown.ShownSide.{ShownSide}
use Rattle.relay_shared.specs.Index.{Register, entered, id_count, IsNamed, EntersIndex, LeavesIndex}

-- what is done to an index: this is entered under an id, or what was entered under an id leaves
pub data Move (C L : Type 0) : Type 0 where
  Entered : (id : ℕ) (standing : Standing C L) → Move C L
  Left : (id : ℕ) → Move C L

module _ {C L : Type 0} where
  -- this was done
  abbrev pub Moves : Move C L → Register C L → Register C L → Type 0
  Moves (Entered id standing) old new = EntersIndex old new id standing
  Moves (Left id) old new = LeavesIndex old new id

  -- this index came of an empty one by these moves, newest first
  abbrev pub CameByMoves : List (Move C L) → Register C L → Type 0
  CameByMoves [] index = index.entries ≡ []
  CameByMoves (move ∷ before) index = (old : Register C L) × CameByMoves before old × Moves move old index

  -- of these moves one has entered this under the id, and none later has it leave
  abbrev pub Stands : List (Move C L) → ℕ → Standing C L → Type 0
  Stands [] id standing = ⊥
  Stands (Entered at given ∷ before) id standing =
      ((at ≡ id) × (given ≡ standing)) ⊎ ((at ≢ id) × Stands before id standing)
  Stands (Left at ∷ before) id standing = (at ≢ id) × Stands before id standing

  -- of these moves one has given this id, to what had been entered before or to its target
  abbrev pub WasGiven : List (Move C L) → ℕ → Type 0
  WasGiven [] id = ⊥
  WasGiven (Entered at given ∷ before) id =
      ((at ≤ id) × (id + 1 ≤ at + id_count given)) ⊎ WasGiven before id
  WasGiven (Left at ∷ before) id = WasGiven before id

-- what is found is what stands: it was entered, and hasn't left since
abbrev pub WhatIsFoundStands : (C L : Type 0) → Type 0
WhatIsFoundStands C L = (moves : List (Move C L)) (index : Register C L) → CameByMoves moves index →
    (id : ℕ) (standing : Standing C L) →
    (entered index id ≡ Some standing ↔ Stands moves id standing)

-- an id is given once: those of what is entered were nobody's
abbrev pub IdsAreGivenOnce : (C L : Type 0) → Type 0
IdsAreGivenOnce C L = (at : ℕ) (standing : Standing C L) (before : List (Move C L)) (index : Register C L) →
    CameByMoves (Entered at standing ∷ before) index →
    (id : ℕ) → at ≤ id → WasGiven before id → ⊥

-- an id names one side of one thing at most
abbrev pub AnIdNamesOne : (C L : Type 0) → Type 0
AnIdNamesOne C L = (moves : List (Move C L)) (index : Register C L) → CameByMoves moves index →
    (id : ℕ) (first second : ShownSide) (one other : Standing C L) →
    IsNamed index id first one → IsNamed index id second other →
    (first ≡ second) × (one ≡ other)
