-- What a relay writes on standard output, and at its start on standard error.
use Rattle.std.specs.Prelude.{ℕ, List, [], ◌∷◌, ◌++◌, Option, codes}
use Rattle.std.specs.Fmt.{decimal}
use Rattle.std.specs.Io.KnownBytes.{Appends}
use Rattle.relay_admin.specs.rules.Addr.{address_of, address_text}
use Rattle.relay_facts.specs.declared.totals.Totals.{Totals}
use Rattle.relay_main.specs.declared.listening.GivenListener.{GivenListener}
use Rattle.relay_server.specs.Threads.{AreSumsOf}

-- the line of a relay that listens by so many rules
abbrev pub listening_line : ℕ → List ℕ
listening_line rules = codes "listening " ++ decimal rules ++ 10 ∷ []

-- the line of a relay that listens was written, with some number of rules
abbrev pub SaysItListens : Option (List ℕ) → Option (List ℕ) → Type 0
SaysItListens old new = (rules : ℕ) × Appends old new (listening_line rules)

-- the line of the totals
abbrev pub totals_line : ℕ → ℕ → List ℕ
totals_line up down = codes "up " ++ decimal up ++ codes " down " ++ decimal down ++ 10 ∷ []

-- both lines were written, with some number of rules and the sums of what so many loops told, and nothing
-- else
abbrev pub WritesBothLines : (loops : ℕ) → Option (List ℕ) → Option (List ℕ) → Type 0
WritesBothLines loops old new =
    (rules : ℕ) × (totals : Totals) × AreSumsOf totals loops
    × Appends old new (listening_line rules ++ totals_line totals.up.bytes totals.down.bytes)

-- the line of a listener that was given and that nobody has
abbrev pub unused_line : GivenListener → List ℕ
unused_line given = codes "unused socket " ++ address_text (address_of given.addr) ++ 10 ∷ []
