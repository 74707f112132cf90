-- Where the loops have what stands.
use Rattle.std.specs.Prelude.{◌≡◌, ◌⊎◌, ℕ}
use Rattle.std.specs.Arc.{arc_value}
use Rattle.std.specs.declared.alloc.Global.{Global}
use Rattle.std.specs.declared.sync.Arc.{Arc}
use Rattle.arrayvec.specs.declared.array_string.ArrayString.{ArrayString}
use Rattle.readiness.specs.declared.loop_token.Place.{Place}
use Rattle.relay_admin.specs.declared.admin.shown.ShownSide.{ShownSide}
use Rattle.relay_admin.specs.declared.admin.shown.ShownSide.TheVariants.{Target}
use Rattle.relay_facts.specs.Acceptance.{said_then}
use Rattle.relay_facts.specs.declared.served_rule.ServedRule.{ServedRule}
use Rattle.relay_shared.specs.Index.{Register, IsNamed}
use Rattle.relay_shared.specs.declared.index.Standing.{Standing}
use Rattle.relay_shared.specs.declared.index.Standing.TheVariants.{Connection, Listener}
use Rattle.relay_shared.specs.declared.standing.Connected.{Connected}
use Rattle.relay_shared.specs.declared.standing.Whereabouts.{Whereabouts}

-- the token of a task on a side of its connection: the target has the second of its place
abbrev pub token_on : ShownSide → Place → ℕ
token_on Target place = place.second
token_on other place = place.first

-- the id names a side of a connection, whose loop and task are these
abbrev pub IsWhere : Register Connected (Arc ServedRule Global) → ℕ → Whereabouts → Type 0
IsWhere index id at = (side : ShownSide) × (connected : Connected)
    × IsNamed index id side (Connection connected)
    × (at.loop_place ≡ (arc_value connected.facts).loop_place)
    × (at.token ≡ token_on side connected.place)

-- the id names this side of a connection by a rule of this name
abbrev pub IsShownSide : Register Connected (Arc ServedRule Global) → ℕ → ShownSide → ArrayString 16 → Type 0
IsShownSide index id side rule = (connected : Connected)
    × IsNamed index id side (Connection connected)
    × ((said_then (arc_value connected.facts).acceptance).rule.name ≡ rule)

-- the id names nothing, or a listener
abbrev pub NamesNoSide : Register Connected (Arc ServedRule Global) → ℕ → Type 0
NamesNoSide index id =
    ((side : ShownSide) (standing : Standing Connected (Arc ServedRule Global))
    → IsNamed index id side standing → ⊥)
    ⊎ ((side : ShownSide) × (served : Arc ServedRule Global)
    × IsNamed index id side (Listener served))
