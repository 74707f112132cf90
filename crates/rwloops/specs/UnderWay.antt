-- The tries of a read under way, in parts: each part but the newest ends where the half would
-- block. Lists are newest first.
use Rattle.std.specs.Prelude.{◌≡◌, ℕ, List, [], ◌∷◌, ◌++◌, length, None}
use Rattle.rwloops.specs.ReadTrace.{ReadTry}
use Rattle.rwloops.specs.TryNow.{ReadNow}

-- these tries were made into some buffer of this length, and the half would block then
pub record WouldBlock (len : ℕ) (tries : List ReadTry) : Type 0 where
  pub buffer : List ℕ
  pub room : length buffer ≡ len
  pub blocked : ReadNow buffer tries None

-- so it is with each part
abbrev pub EachWouldBlock : ℕ → List (List ReadTry) → Type 0
EachWouldBlock len [] = Unit {0}
EachWouldBlock len (newest ∷ earlier) = WouldBlock len newest × EachWouldBlock len earlier

-- the tries of all parts in one list
abbrev pub joined : {A : Type 0} → List (List A) → List A
joined [] = []
joined (newest ∷ earlier) = newest ++ joined earlier
