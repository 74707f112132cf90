-- Where a connection goes.
use Rattle.std.specs.Prelude.{◌<◌, ◌≤◌, ℕ, List, length, slice_index}

-- of these loads the one at this place is least, and each before it is greater
pub record IsFirstLeast (loads : List ℕ) (place : ℕ) : Type 0 where
  pub within : place < length loads
  pub least : (k : ℕ) → k < length loads → slice_index loads place ≤ slice_index loads k
  pub first : (k : ℕ) → k < place → slice_index loads place < slice_index loads k
