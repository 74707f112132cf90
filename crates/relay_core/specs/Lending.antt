-- What a copy keeps, and what a loop lends it.
use Rattle.std.specs.Prelude.{ℕ, List}

-- bytes that wait to be written, and how many there is room for
pub record Keeping : Type 0 where
  pub bytes : List ℕ
  pub room : ℕ

-- a buffer, and for how many of its bytes there is room beside it
pub record Lending : Type 0 where
  pub buffer : List ℕ
  pub room : ℕ
