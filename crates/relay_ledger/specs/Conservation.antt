-- Runs of openings, credits and settlements, and what they leave.
use Rattle.std.specs.Prelude.{◌≡◌, ◌+◌, ℕ, List, [], ◌∷◌, ◌++◌, All, length, sum, sum_by}
use Rattle.relay_ledger.specs.Book.{Account, OpensOne, Adds, Settles}

-- a share as its calls left it: the credits that it was given, in order, and the amount that it has
pub record Credited : Type 0 where
  pub credits : List ℕ
  pub amount : ℕ

-- a share that was opened
abbrev pub opened_share : Credited
opened_share = record { credits = []; amount = 0 }

-- a share that was given one credit more
abbrev pub credited_share : Credited → ℕ → Credited
credited_share share n =
    record { credits = share.credits ++ n ∷ []; amount = share.amount + n }

-- a book that was not gathered, its open shares in the order of opening, and its settled ones
pub data HasCredits : Account → List Credited → List Credited → Type 0 where
  empty : {book : Account} → book.total ≡ 0 → book.opened ≡ 0 → book.settled ≡ 0
      → HasCredits book [] []
  opened : {old new : Account} {held settled : List Credited} → HasCredits old held settled →
      OpensOne old new → HasCredits new (held ++ opened_share ∷ []) settled
  credited : {old new : Account} {settled : List Credited} (before after : List Credited)
      (share : Credited) (n : ℕ) →
      HasCredits old (before ++ share ∷ after) settled → Adds old new n →
      HasCredits new (before ++ credited_share share n ∷ after) settled
  settled : {old new : Account} {settled : List Credited} (before after : List Credited)
      (share : Credited) →
      HasCredits old (before ++ share ∷ after) settled → Settles old new share.amount →
      HasCredits new (before ++ after) (share ∷ settled)

-- the sum of a share's credits
abbrev pub credits_of : Credited → ℕ
credits_of share = sum share.credits

-- the share's amount is the sum of its credits
abbrev pub HasItsCredits : Credited → Type 0
HasItsCredits share = share.amount ≡ credits_of share

-- the total is the sum of all credits of all shares, open and settled, each open share is counted,
-- and each share's amount, open or settled, is the sum of its own credits
abbrev pub CreditsAreConserved : Type 0
CreditsAreConserved = (book : Account) (held settled : List Credited) →
    HasCredits book held settled →
    (book.total ≡ sum_by credits_of held + sum_by credits_of settled)
    × (book.settled ≡ sum_by credits_of settled) × (book.opened ≡ length held)
    × All HasItsCredits held × All HasItsCredits settled
