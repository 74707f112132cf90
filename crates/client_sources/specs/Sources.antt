-- A table of sources: how many connections of each stand, and how many of its clients were let in.
use Rattle.std.specs.Prelude.{◌≡◌, ◌+◌, ◌/◌, ◌<◌, ◌≤◌, ℕ, true, false, List, Option, Some, None, length, map, sum, slice_get, slice_set, if◌then◌else◌, option_and_then}
use Rattle.client_sources.specs.Entry.{entry_at, entry_left, has_source, is_vacant, let_in_at, new_entry}
use Rattle.client_sources.specs.Limits.{most_let_in, most_standing}
use Rattle.client_sources.specs.Source.{source_group}
use Rattle.client_sources.specs.declared.entry.Entry.{Entry}
use Rattle.client_sources.specs.declared.limits.Limits.{Limits}
use Rattle.client_sources.specs.declared.source.Source.{Source}

-- the places of a table, at some of which a source is known
abbrev pub SourceTable : Type 0
SourceTable = List (Option Entry)

-- ---- What a table says of a source

-- how many connections of a source stand by what is known at a place
abbrev pub standing_at : Source → Option Entry → ℕ
standing_at source None = 0
standing_at source (Some entry) = if has_source source (Some entry) then entry.standing else 0

-- how many connections of a source stand
abbrev pub standing_of : Source → SourceTable → ℕ
standing_of source table = sum (map (standing_at source) table)

-- how many of its clients were let in by what is known at a place, in the time that runs
abbrev pub let_in_by : Source → Limits → ℕ → Option Entry → ℕ
let_in_by source limits now None = 0
let_in_by source limits now (Some entry) = if has_source source (Some entry) then let_in_at limits now entry else 0

-- how many of its clients were let in in the time that runs
abbrev pub let_in_of : Source → Limits → ℕ → SourceTable → ℕ
let_in_of source limits now table = sum (map (let_in_by source limits now) table)

-- ---- Places

-- a place, where the table has it
abbrev pub IsAt : ℕ → SourceTable → Option Entry → Type 0
IsAt place table held = slice_get table place ≡ Some held

-- what is known at a place
abbrev pub entry_in : ℕ → SourceTable → Option Entry
entry_in place table = option_and_then (λ (held : Option Entry). held) (slice_get table place)

-- this, or where nothing is known a source of which nobody was let in
abbrev pub known_or : Source → ℕ → Option Entry → Entry
known_or source now None = new_entry source now
known_or source now (Some entry) = entry

-- what is known of a source that has this place, or none
abbrev pub known_at : Option ℕ → Source → ℕ → SourceTable → Entry
known_at None source now table = new_entry source now
known_at (Some place) source now table = known_or source now (entry_in place table)

-- the place is one of the source's group
abbrev pub IsOfGroup : Source → ℕ → Type 0
IsOfGroup source place = place / 16 ≡ source_group source

-- the source stands at the place
abbrev pub StandsAt : Source → ℕ → SourceTable → Type 0
StandsAt source place table = (held : Option Entry) × IsAt place table held × (has_source source held ≡ true)

-- the source stands at none
abbrev pub LacksSource : Source → SourceTable → Type 0
LacksSource source table = (place : ℕ) (held : Option Entry) → IsAt place table held → has_source source held ≡ false

-- the place is one of the source's group, and another source may have it
abbrev pub IsVacantFor : Source → Limits → ℕ → ℕ → SourceTable → Type 0
IsVacantFor source limits now place table = IsOfGroup source place
    × ((held : Option Entry) × IsAt place table held × (is_vacant limits now held ≡ true))

-- all places of the source's group are other sources'
abbrev pub HasFullGroup : Source → Limits → ℕ → SourceTable → Type 0
HasFullGroup source limits now table = (place : ℕ) (held : Option Entry) → IsOfGroup source place → IsAt place table held
    → is_vacant limits now held ≡ false

-- the place for a client of a source is its own; where it has none, a vacant one; and none where all places of
-- its group are other sources'
abbrev pub IsPlaceFor : Source → Limits → ℕ → SourceTable → (own place : Option ℕ) → Type 0
IsPlaceFor source limits now table (Some own) place = place ≡ Some own
IsPlaceFor source limits now table None (Some place) = IsVacantFor source limits now place table
IsPlaceFor source limits now table None None = HasFullGroup source limits now table

-- a source may stand at a place, if there is one: it is one of its group, and the source stands at no other
abbrev pub MayStandAt : Option ℕ → Source → SourceTable → Type 0
MayStandAt None source table = Unit {0}
MayStandAt (Some place) source table =
    IsOfGroup source place × ((other : ℕ) → StandsAt source other table → other ≡ place)

-- ---- A table

-- 16,384 places; each source stands in its group, and at one place
pub record IsTable (table : SourceTable) : Type 0 where
  pub size : length table ≡ 16384
  pub grouped : (place : ℕ) (entry : Entry) → IsAt place table (Some entry) → IsOfGroup entry.source place
  pub once : (one other : ℕ) (source : Source) → StandsAt source one table → StandsAt source other table → one ≡ other

-- no source stands there
abbrev pub HasNoSource : SourceTable → Type 0
HasNoSource table = (place : ℕ) (held : Option Entry) → IsAt place table held → held ≡ None

-- ---- A client

-- what is known at a place is this from then on, if there is one
abbrev pub put_at : Option ℕ → Entry → SourceTable → SourceTable
put_at None entry table = table
put_at (Some place) entry table = slice_set table place (Some entry)

-- as many connections of the source stand as may
abbrev pub IsSourceFull : Source → Limits → SourceTable → Type 0
IsSourceFull source limits table = most_standing limits ≤ standing_of source table

-- fewer stand, and as many of its clients were let in as may be in the time that runs
abbrev pub IsOverRate : Source → Limits → ℕ → SourceTable → Type 0
IsOverRate source limits now table = (standing_of source table < most_standing limits)
    × (most_let_in limits ≤ let_in_of source limits now table)

-- the source has no place, and can have none
abbrev pub HasNoPlace : Source → Limits → ℕ → SourceTable → Type 0
HasNoPlace source limits now table = LacksSource source table × HasFullGroup source limits now table

-- the place is the source's; or it has none, and the place is one that it may have
pub record MayHave (source : Source) (limits : Limits) (now : ℕ) (table : SourceTable) (place : ℕ) : Type 0 where
  pub own : (other : ℕ) → StandsAt source other table → place ≡ other
  pub vacant : LacksSource source table → IsVacantFor source limits now place table

-- of all other sources as many connections stand as before
abbrev pub OthersStand : Source → SourceTable → SourceTable → Type 0
OthersStand source old new = (other : Source) → (other ≡ source → ⊥) → standing_of other new ≡ standing_of other old

-- the time of a source runs since then, at this moment: as it ran, or since this moment where it was over or
-- the source is new
pub record RunsSince (source : Source) (limits : Limits) (now : ℕ) (table : SourceTable) (since : ℕ) : Type 0 where
  pub own : (place : ℕ) (known : Entry) → IsAt place table (Some known) → has_source source (Some known) ≡ true
      → since ≡ (entry_at limits now known).since
  pub first : LacksSource source table → since ≡ now

-- a client of the source was let in, and is counted at this place: one connection of the source more
-- stands, which makes no more than may, and one client more was let in; nothing else has changed
pub record IsCountedAt (source : Source) (limits : Limits) (now : ℕ) (old new : SourceTable) (place : ℕ) : Type 0 where
  pub may_have : MayHave source limits now old place
  pub entry : Entry
  pub put : new ≡ slice_set old place (Some entry)
  pub is_source : entry.source ≡ source
  pub stands : entry.standing ≡ standing_of source old + 1
  pub few : entry.standing ≤ most_standing limits
  pub is_let_in : entry.let_in ≡ let_in_of source limits now old + 1
  pub in_time : entry.let_in ≤ most_let_in limits
  pub since : RunsSince source limits now old entry.since
  pub one_more : standing_of source new ≡ standing_of source old + 1
  pub others : OthersStand source old new

-- of no source more stand than may, where of none more did
abbrev pub NeverMore : Limits → SourceTable → SourceTable → Type 0
NeverMore limits old new = (source : Source) → standing_of source old ≤ most_standing limits
    → standing_of source new ≤ most_standing limits

-- ---- An end

-- so many connections don't stand any more by what is known at a place
abbrev pub held_left : ℕ → Option Entry → Option Entry
held_left count None = None
held_left count (Some entry) = Some (entry_left count entry)

-- the table without so many connections at a place, where it has that
abbrev pub left_in : ℕ → ℕ → Option (Option Entry) → SourceTable → SourceTable
left_in place count None table = table
left_in place count (Some held) table = slice_set table place (held_left count held)

-- the table without so many connections at a place
abbrev pub ended_at : ℕ → ℕ → SourceTable → SourceTable
ended_at place count table = left_in place count (slice_get table place) table

-- of no source more stand than before
abbrev pub AreFewer : SourceTable → SourceTable → Type 0
AreFewer old new = (source : Source) → standing_of source new ≤ standing_of source old
