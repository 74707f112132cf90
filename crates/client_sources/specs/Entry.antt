-- What is known of one source, and whether a client of it is let in.
use Rattle.std.specs.Prelude.{◌+◌, ◌-◌, ◌==◌, ◌&&◌, ℕ, Bool, true, false, nat_le, Option, Some, None, Result, Ok, Err, if◌then◌else◌}
use Rattle.client_sources.specs.Limits.{most_let_in, most_standing, period_of}
use Rattle.client_sources.specs.Source.{same_source}
use Rattle.client_sources.specs.declared.entry.Entry.{Entry}
use Rattle.client_sources.specs.declared.limits.Limits.{Limits}
use Rattle.client_sources.specs.declared.limits.Refusal.{Refusal}
use Rattle.client_sources.specs.declared.limits.Refusal.TheVariants as refusal
use Rattle.client_sources.specs.declared.source.Source.{Source}

-- of this source nobody was let in by this moment
abbrev pub new_entry : Source → ℕ → Entry
new_entry source now = record { source = source; standing = 0; let_in = 0; since = now }

-- the time of those that were let in is over
abbrev pub is_time_over : Limits → ℕ → Entry → Bool
is_time_over limits now entry = nat_le (period_of limits) (now - entry.since)

-- nobody of the source stands, and the time is over
abbrev pub is_idle : Limits → ℕ → Entry → Bool
is_idle limits now entry = (entry.standing == 0) && is_time_over limits now entry

-- how many were let in in the time that runs at this moment
abbrev pub let_in_at : Limits → ℕ → Entry → ℕ
let_in_at limits now entry = if is_time_over limits now entry then 0 else entry.let_in

-- what is known at this moment: a time that is over counts no more, and the next one begins
abbrev pub entry_at : Limits → ℕ → Entry → Entry
entry_at limits now entry =
    if is_time_over limits now entry then record entry { let_in = 0; since = now } else entry

-- one client more
abbrev pub with_one_more : Entry → Entry
with_one_more entry = record entry { standing = entry.standing + 1; let_in = entry.let_in + 1 }

-- a client is let in where fewer of its source stand than may, and fewer were let in than may be in the
-- time that runs
abbrev pub admission : Limits → ℕ → Entry → Result Entry Refusal
admission limits now entry =
    if nat_le (most_standing limits) entry.standing then Err refusal.Full
    else if nat_le (most_let_in limits) (let_in_at limits now entry) then Err refusal.Rate
    else Ok (with_one_more (entry_at limits now entry))

-- so many of those that stood don't any more
abbrev pub entry_left : ℕ → Entry → Entry
entry_left count entry = record entry { standing = entry.standing - count }

-- a place has the source
abbrev pub has_source : Source → Option Entry → Bool
has_source source None = false
has_source source (Some entry) = same_source entry.source source

-- another source may have the place
abbrev pub is_vacant : Limits → ℕ → Option Entry → Bool
is_vacant limits now None = true
is_vacant limits now (Some entry) = is_idle limits now entry
