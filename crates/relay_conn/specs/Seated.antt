-- A client that isn't served for its source.
use Rattle.relay_conn.specs.declared.refused.Refused.{Refused}
use Rattle.relay_conn.specs.declared.refused.Refused.TheVariants.{Source}

-- it is refused for its source
abbrev pub IsForSource : Refused → Type 0
IsForSource (Source why) = Unit {0}
IsForSource other = ⊥
