-- What was done to the slots of sessions, by induction over it.
use Rattle.std.proofs.Common.{◌≡◌, ◌≢◌, ◌⊎◌, sym, inl, inr, ℕ, ◌<◌, List, [], ◌∷◌, Some, arith}
use Rattle.std.proofs.lemmas.Bool.Decides.{eqb_tells}
use Rattle.relay_shared.specs.declared.requests.Answer.{Answer}
use Rattle.relay_shared.specs.declared.requests.Slot.{Slot}
use Rattle.relay_shared.specs.declared.requests.Slot.TheVariants as slot
use Rattle.relay_shared.specs.declared.requests.Slots.{Slots}
use Rattle.relay_shared.specs.Requests.{Deed, Began, Answered, Took, Withdrew, slot_at, next_ticket, HasAsked, HasAnswer, SameBut}
use Rattle.relay_shared.specs.Laws.{CameBy, HasRequest, WasAnswered, HasBegun, AnswersReachTheirRequests, NumbersAreGivenOnce}

-- a place is that of a deed, or another
at_or_not : (at place : ℕ) → (at ≡ place) ⊎ (at ≢ place)
at_or_not at place = elim (eqb_tells at place) [ inl same ↦ inl same.1 | inr other ↦ inr other.1 ]

-- what another place says it has said before
said_before : (at place : ℕ) (old new : Slots) (said : Slot) → SameBut at old new → at ≢ place
    → slot_at new place ≡ Some said → slot_at old place ≡ Some said
said_before at place old new said same other says =
    let kept : slot_at new place ≡ slot_at old place = same place (λ is. other (sym is)) in cc

-- who waits has begun a request, and has it still
has_request : (before : List Deed) (slots : Slots) → CameBy before slots → (place number : ℕ)
    → HasAsked slots place number → HasRequest before place number
has_request [] slots none place number asked =
    let free : slot.Asked number ≡ slot.Free = none place (slot.Asked number) asked in absurd (cc)
has_request (Began at given ∷ before) slots came place number asked =
    elim (at_or_not at place) [
      | inl same ↦ (let begun = came.2.0.0 in inl (same, cc))
      | inr other ↦ inr (
        other,
        has_request before came.0 came.1 place number
            (said_before at place came.0 slots (slot.Asked number) came.2.1 other asked),
      )
    ]
has_request (Answered at given answer ∷ before) slots came place number asked =
    elim (at_or_not at place) [
      | inl same ↦ (let answered = came.2.0.1 in absurd (cc))
      | inr other ↦ has_request before came.0 came.1 place number
          (said_before at place came.0 slots (slot.Asked number) came.2.1 other asked)
    ]
has_request (Took at answer ∷ before) slots came place number asked =
    elim (at_or_not at place) [
      | inl same ↦ (let free = came.2.0.1 in absurd (cc))
      | inr other ↦ (
        other,
        has_request before came.0 came.1 place number
            (said_before at place came.0 slots (slot.Asked number) came.2.1 other asked),
      )
    ]
has_request (Withdrew at ∷ before) slots came place number asked =
    elim (at_or_not at place) [
      | inl same ↦ (let free : slot.Asked number ≡ slot.Free = came.2.0.0 (slot.Asked number) (cc) in
          absurd (cc))
      | inr other ↦ (
        other,
        has_request before came.0 came.1 place number
            (said_before at place came.0 slots (slot.Asked number) came.2.1 other asked),
      )
    ]

-- who has an answer has the request that was given it
was_answered : (before : List Deed) (slots : Slots) → CameBy before slots → (place : ℕ)
    (answer : Answer) → HasAnswer slots place answer → WasAnswered before place answer
was_answered [] slots none place answer has =
    let free : slot.Answered answer ≡ slot.Free = none place (slot.Answered answer) has in absurd (cc)
was_answered (Began at given ∷ before) slots came place answer has =
    elim (at_or_not at place) [
      | inl same ↦ (let begun = came.2.0.0 in absurd (cc))
      | inr other ↦ (
        other,
        was_answered before came.0 came.1 place answer
            (said_before at place came.0 slots (slot.Answered answer) came.2.1 other has),
      )
    ]
was_answered (Answered at number given ∷ before) slots came place answer has =
    elim (at_or_not at place) [
      | inl same ↦ (let asked = came.2.0.0 in let answered = came.2.0.1 in
          inl (same, cc, has_request before came.0 came.1 place number (cc)))
      | inr other ↦ inr (
        other,
        was_answered before came.0 came.1 place answer
            (said_before at place came.0 slots (slot.Answered answer) came.2.1 other has),
      )
    ]
was_answered (Took at given ∷ before) slots came place answer has =
    elim (at_or_not at place) [
      | inl same ↦ (let free = came.2.0.1 in absurd (cc))
      | inr other ↦ (
        other,
        was_answered before came.0 came.1 place answer
            (said_before at place came.0 slots (slot.Answered answer) came.2.1 other has),
      )
    ]
was_answered (Withdrew at ∷ before) slots came place answer has =
    elim (at_or_not at place) [
      | inl same ↦ (let free : slot.Answered answer ≡ slot.Free =
          came.2.0.0 (slot.Answered answer) (cc) in absurd (cc))
      | inr other ↦ (
        other,
        was_answered before came.0 came.1 place answer
            (said_before at place came.0 slots (slot.Answered answer) came.2.1 other has),
      )
    ]

pub answers_reach_their_requests : AnswersReachTheirRequests
answers_reach_their_requests place answer before slots came =
    was_answered before came.0 came.1 place answer came.2.0.0

-- the numbers that were given are below the next
below_next : (before : List Deed) (slots : Slots) → CameBy before slots → (number : ℕ)
    → HasBegun before number → number < next_ticket slots
below_next [] slots none number begun = absurd begun
below_next (Began at given ∷ before) slots came number begun =
    let is = came.2.0.1 in let next = came.2.0.2 in
    elim begun [
      | inl same ↦ omega (arith, same, is, next)
      | inr earlier ↦ (let below = below_next before came.0 came.1 number earlier in
          omega (arith, below, is, next))
    ]
below_next (Answered at given answer ∷ before) slots came number begun =
    let kept = came.2.0.2 in let below = below_next before came.0 came.1 number begun in
    omega (arith, below, kept)
below_next (Took at answer ∷ before) slots came number begun =
    let kept = came.2.0.2 in let below = below_next before came.0 came.1 number begun in
    omega (arith, below, kept)
below_next (Withdrew at ∷ before) slots came number begun =
    let kept = came.2.0.1 in let below = below_next before came.0 came.1 number begun in
    omega (arith, below, kept)

pub numbers_are_given_once : NumbersAreGivenOnce
numbers_are_given_once place number before slots came begun =
    let is = came.2.0.1 in let below = below_next before came.0 came.1 number begun in
    absurd (omega (arith, below, is))
