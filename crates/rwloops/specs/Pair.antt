-- What is in a pair. No public clause cites this module.
use Rattle.std.specs.Borrow.{MutBor}
use Rattle.rwloops.specs.declared.pair.Pair.{Pair}

-- the half of a pair
abbrev pub half_of : {H W : Type 0} → Pair H W → MutBor H
half_of pair = pair.half

-- the waits of a pair
abbrev pub waits_of : {H W : Type 0} → Pair H W → MutBor W
waits_of pair = pair.waits
