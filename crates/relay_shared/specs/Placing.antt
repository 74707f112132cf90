-- Which loop gets a connection.
use Rattle.std.specs.Prelude.{◌≡◌, ◌<◌, ◌-◌, ◌^◌, ◌⊎◌, ℕ, List, [], Some, length, min, slice_get, sum}
use Rattle.relay_core.specs.Placing.{IsFirstLeast}
use Rattle.relay_shared.specs.declared.loop_handle.LoopHandle.{LoopHandle}

-- the sum of what the loops have, as far as a number of 64 bits tells it
abbrev pub sum_of : List ℕ → ℕ
sum_of counts = min (sum counts) (2 ^ 64 - 1)

-- of loops that have so many, by their places, this is the first with the fewest
abbrev pub IsFewest : List LoopHandle → List ℕ → LoopHandle → Type 0
IsFewest loops counts handle =
    (place : ℕ) × IsFirstLeast counts place × (slice_get loops place ≡ Some handle)

-- there is no loop, or it isn't known of each what it has
abbrev pub LacksLoops : List LoopHandle → List ℕ → Type 0
LacksLoops loops counts = (counts ≡ []) ⊎ (length loops < length counts)
