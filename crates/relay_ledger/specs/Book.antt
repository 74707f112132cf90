-- What a caller sees of a book, and how the calls change it.
use Rattle.std.specs.Prelude.{◌≡◌, ◌<◌, ◌+◌, ◌-◌, ◌⊎◌, ℕ, Bool, true, false, List, length}
use Rattle.relay_ledger.specs.declared.book.TheConstants.{MAX_SHARES}

-- the sum of all credits, how many shares are open, the sum of the amounts of the shares that were
-- settled, and whether all that were open were gathered
pub record Account : Type 0 where
  pub total : ℕ
  pub opened : ℕ
  pub settled : ℕ
  pub gathered : Bool

-- one share more was opened
abbrev pub OpensOne : Account → Account → Type 0
OpensOne old new = new ≡ record old { opened = old.opened + 1 }

-- this much was added to the total
abbrev pub Adds : Account → Account → ℕ → Type 0
Adds old new n = new ≡ record old { total = old.total + n }

-- a share of this amount was taken back, and the total keeps what it was credited
abbrev pub Settles : Account → Account → ℕ → Type 0
Settles old new amount =
    new ≡ record old { opened = old.opened - 1; settled = old.settled + amount }

-- all open shares were taken back, and the book keeps its total and its count
abbrev pub Gathers : Account → Account → Type 0
Gathers old new = new ≡ record old { settled = old.total; gathered = true }

-- a book that opens one share more
abbrev pub MayOpen : Account → Type 0
MayOpen book = (book.opened < MAX_SHARES) × (book.gathered ≡ false)

-- a book that opens none
abbrev pub CannotOpen : Account → Type 0
CannotOpen book = (book.opened ≡ MAX_SHARES) ⊎ (book.gathered ≡ true)

-- as many shares as are open, of a book that wasn't gathered before
abbrev pub AreAllShares : Account → List ℕ → Type 0
AreAllShares book shares = (book.gathered ≡ false) × (length shares ≡ book.opened)
