-- The slots in which admin sessions wait for answers, and what is done to them.
use Rattle.std.specs.Prelude.{◌≡◌, ◌≢◌, ◌⊎◌, ◌+◌, ◌^◌, ◌≤◌, ℕ, length, Option, Some, None, slice_get}
use Rattle.relay_shared.specs.declared.requests.Answer.{Answer}
use Rattle.relay_shared.specs.declared.requests.Answer.TheVariants as answers
use Rattle.relay_shared.specs.declared.requests.Asks.{Asks}
use Rattle.relay_shared.specs.declared.requests.Asks.TheVariants as asks
use Rattle.relay_shared.specs.declared.requests.Slot.{Slot}
use Rattle.relay_shared.specs.declared.requests.Slot.TheVariants as slot
use Rattle.relay_shared.specs.declared.requests.Slots.{Slots}
use Rattle.relay_shared.specs.declared.requests.Ticket.{Ticket}

-- the answer to what is asked of no connection
abbrev pub unknown_answer : Asks → Answer
unknown_answer asks.Close = answers.Close None
unknown_answer asks.Drain = answers.Drain None
unknown_answer (asks.Deadline deadline now) = answers.Deadline None

-- an answer to this question that was carried out
abbrev pub IsCarriedOut : Asks → Answer → Type 0
IsCarriedOut asks.Close (answers.Close (Some gone)) = Unit {0}
IsCarriedOut asks.Drain (answers.Drain (Some done)) = Unit {0}
IsCarriedOut (asks.Deadline deadline now) (answers.Deadline (Some done)) = Unit {0}
IsCarriedOut asked other = ⊥

-- the place of the session that has made a request
abbrev pub ticket_place : Ticket → ℕ
ticket_place ticket = ticket.place

-- the number of a request
abbrev pub ticket_number : Ticket → ℕ
ticket_number ticket = ticket.number

-- the slot at a place
abbrev pub slot_at : Slots → ℕ → Option Slot
slot_at slots place = slice_get slots.slots.items place

-- the number of the next request
abbrev pub next_ticket : Slots → ℕ
next_ticket slots = slots.next

-- the session at a place waits for the answer to the request of this number
abbrev pub HasAsked : Slots → (place number : ℕ) → Type 0
HasAsked slots place number = slot_at slots place ≡ Some (slot.Asked number)

-- the session at a place has this answer, which it hasn't taken yet
abbrev pub HasAnswer : Slots → (place : ℕ) → Answer → Type 0
HasAnswer slots place answer = slot_at slots place ≡ Some (slot.Answered answer)

-- nobody waits
abbrev pub NobodyWaits : Slots → Type 0
NobodyWaits slots = (place : ℕ) (found : Slot) → slot_at slots place ≡ Some found
    → found ≡ slot.Free

-- no request of the session at this place can begin: there is no such place, or no number is left
abbrev pub CannotBegin : Slots → ℕ → Type 0
CannotBegin slots place =
    (length slots.slots.items ≤ place) ⊎ (2 ^ 64 ≤ next_ticket slots + 1)

-- all slots but that at this place are as they were
abbrev pub SameBut : ℕ → Slots → Slots → Type 0
SameBut place old new = (other : ℕ) → other ≢ place → slot_at new other ≡ slot_at old other

-- the slot at this place, if there is one, says this from now on, and all else is as it was
pub record SlotSays (old new : Slots) (place : ℕ) (now : Slot) : Type 0 where
  pub put : (before : Slot) → slot_at old place ≡ Some before → slot_at new place ≡ Some now
  pub others : SameBut place old new
  pub number : next_ticket new ≡ next_ticket old
  pub places : length new.slots.items ≡ length old.slots.items

-- what is done to the slots: a session begins a request of this number; that is answered; the
-- session takes this answer; it waits for nothing more
pub data Deed : Type 0 where
  Began : (place number : ℕ) → Deed
  Answered : (place number : ℕ) (answer : Answer) → Deed
  Took : (place : ℕ) (answer : Answer) → Deed
  Withdrew : (place : ℕ) → Deed

-- what each deed does to the slot at its place
abbrev pub ChangesSlot : Deed → Slots → Slots → Type 0
ChangesSlot (Began place number) old new =
    HasAsked new place number × (number ≡ next_ticket old) × (next_ticket new ≡ number + 1)
ChangesSlot (Answered place number answer) old new =
    HasAsked old place number × HasAnswer new place answer × (next_ticket new ≡ next_ticket old)
ChangesSlot (Took place answer) old new =
    HasAnswer old place answer × (slot_at new place ≡ Some slot.Free)
    × (next_ticket new ≡ next_ticket old)
ChangesSlot (Withdrew place) old new =
    ((found : Slot) → slot_at new place ≡ Some found → found ≡ slot.Free)
    × (next_ticket new ≡ next_ticket old)

-- the place to which a deed is done
abbrev pub place_of_deed : Deed → ℕ
place_of_deed (Began place number) = place
place_of_deed (Answered place number answer) = place
place_of_deed (Took place answer) = place
place_of_deed (Withdrew place) = place

-- this was done, to the slot at its place alone
abbrev pub Does : Deed → Slots → Slots → Type 0
Does deed old new = ChangesSlot deed old new × SameBut (place_of_deed deed) old new
