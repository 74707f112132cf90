-- What a loop's book is made of, and what becomes of it.
use Rattle.std.specs.Prelude.{◌≡◌, ℕ, Option, Some, None}
use Rattle.std.specs.declared.sync.ledger.Blank.{Blank}
use Rattle.relay_ledger.specs.Book.{Account, Settles}
use Rattle.relay_ledger.specs.declared.book.TheConstants.{PARTS}

-- a blank for the ledger with this name and so many parts, which are all that a book takes
abbrev pub IsBlankOf : (name parts : ℕ) → Blank → Type 0
IsBlankOf name parts blank = (blank.name ≡ name) × (blank.parts ≡ parts) × (blank.parts ≡ PARTS)

-- a book took this share back, of so much, or none where there is none
abbrev pub TakesBack : Account → Account → Option ℕ → Type 0
TakesBack old new (Some amount) = Settles old new amount
TakesBack old new None = new ≡ old
