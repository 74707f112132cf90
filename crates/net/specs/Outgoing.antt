-- Bytes that go out.
use Rattle.std.specs.Prelude.{◌≡◌, ◌≢◌, ◌++◌, ⊤, ℕ, List, [], Option, Some, None, Result, Ok, Err}
use Rattle.std.specs.Io.KnownBytes.{Appends}
use Rattle.std.specs.declared.io.Error.{Error}

-- what an answer says of a send: all is sent, some is left, or the write failed, which took nothing
abbrev pub Says : Option (Result ⊤ Error) → List ℕ → List ℕ → Type 0
Says (Some (Ok done)) part left = left ≡ []
Says None part left = left ≢ []
Says (Some (Err error)) part left = part ≡ []

-- a front of what was left was written, no more and no less, and the answer says so
pub record HasSent (answer : Option (Result ⊤ Error)) (old new : List ℕ)
    (before after : Option (List ℕ)) : Type 0 where
  pub part : List ℕ
  pub cut : old ≡ part ++ new
  pub written : Appends before after part
  pub said : Says answer part new
