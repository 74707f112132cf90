-- What the contracts of the slots mean together, over all that was done to them.
use Rattle.std.specs.Prelude.{◌≡◌, ◌≢◌, ◌⊎◌, ℕ, List, [], ◌∷◌}
use Rattle.relay_shared.specs.declared.requests.Answer.{Answer}
use Rattle.relay_shared.specs.declared.requests.Slots.{Slots}
use Rattle.relay_shared.specs.Requests.{Deed, Began, Answered, Took, Withdrew, Does, NobodyWaits}

-- these slots came of a time when nobody waited by these deeds, newest first
abbrev pub CameBy : List Deed → Slots → Type 0
CameBy [] slots = NobodyWaits slots
CameBy (deed ∷ before) slots = (old : Slots) × CameBy before old × Does deed old slots

-- the session at this place has a request of this number: it began that last, and has neither taken
-- an answer nor withdrawn since
abbrev pub HasRequest : List Deed → (place number : ℕ) → Type 0
HasRequest [] place number = ⊥
HasRequest (Began at given ∷ before) place number =
    ((at ≡ place) × (given ≡ number)) ⊎ ((at ≢ place) × HasRequest before place number)
HasRequest (Answered at given answer ∷ before) place number = HasRequest before place number
HasRequest (Took at answer ∷ before) place number = (at ≢ place) × HasRequest before place number
HasRequest (Withdrew at ∷ before) place number = (at ≢ place) × HasRequest before place number

-- the request that the session at this place has was given this answer, and nothing was done at its
-- place since
abbrev pub WasAnswered : List Deed → (place : ℕ) → Answer → Type 0
WasAnswered [] place answer = ⊥
WasAnswered (Answered at number given ∷ before) place answer =
    ((at ≡ place) × (given ≡ answer) × HasRequest before place number)
    ⊎ ((at ≢ place) × WasAnswered before place answer)
WasAnswered (Began at given ∷ before) place answer = (at ≢ place) × WasAnswered before place answer
WasAnswered (Took at given ∷ before) place answer = (at ≢ place) × WasAnswered before place answer
WasAnswered (Withdrew at ∷ before) place answer = (at ≢ place) × WasAnswered before place answer

-- whatever was done: an answer that a session takes was given to the request which it began last,
-- and hasn't withdrawn
abbrev pub AnswersReachTheirRequests : Type 0
AnswersReachTheirRequests = (place : ℕ) (answer : Answer) (before : List Deed) (slots : Slots) →
    CameBy (Took place answer ∷ before) slots → WasAnswered before place answer

-- a request of this number was begun
abbrev pub HasBegun : List Deed → (number : ℕ) → Type 0
HasBegun [] number = ⊥
HasBegun (Began at given ∷ before) number = (given ≡ number) ⊎ HasBegun before number
HasBegun (Answered at given answer ∷ before) number = HasBegun before number
HasBegun (Took at answer ∷ before) number = HasBegun before number
HasBegun (Withdrew at ∷ before) number = HasBegun before number

-- whatever was done: the number of a request that begins is no other's
abbrev pub NumbersAreGivenOnce : Type 0
NumbersAreGivenOnce = (place number : ℕ) (before : List Deed) (slots : Slots) →
    CameBy (Began place number ∷ before) slots → HasBegun before number → ⊥
