-- Which names of hosts are looked up, and when.
use Rattle.std.specs.Prelude.{◌+◌, ◌*◌, ◌-◌, ◌^◌, ℕ, Bool, true, false, List, [], ◌∷◌, Option, Some, None, if◌then◌else◌, map, min, nat_le, option_map}
use Rattle.std.specs.List.{fold}
use Rattle.std.specs.Option.{option_map_or}
use Rattle.relay_facts.specs.declared.host_answers.WantedName.{WantedName}
use Rattle.relay_facts.specs.declared.host_names.DueName.{DueName}
use Rattle.relay_facts.specs.declared.host_names.HostNames.{HostNames}
use Rattle.relay_facts.specs.declared.host_names.TheConstants.{RETRY_MS}

-- the names that are looked up
abbrev pub wanted_in : HostNames → List WantedName
wanted_in names = map (λ (due : DueName). due.name) names.wanted.items

-- there is one
abbrev pub has_some : List WantedName → Bool
has_some [] = false
has_some (first ∷ others) = true

-- so many milliseconds behind a moment, at most the last moment that there is
abbrev pub ms_behind : ℕ → ℕ → ℕ
ms_behind at ms = min (at + ms * 1000000) (2 ^ 64 - 1)

-- when a name is looked up again: after a failure in five seconds at the latest, and else only where a time is said
abbrev pub due_behind : ℕ → Bool → Option ℕ → Option ℕ
due_behind now true (Some ms) = Some (ms_behind now (min ms RETRY_MS))
due_behind now true None = Some (ms_behind now RETRY_MS)
due_behind now false (Some ms) = Some (ms_behind now ms)
due_behind now false None = None

-- it is to be looked up by a moment
abbrev pub is_due : ℕ → DueName → Bool
is_due now due = option_map_or (λ at. nat_le at now) due.at false

-- when it is to be looked up, if it is
abbrev pub moment : DueName → ℕ
moment due = option_map_or (λ at. at) due.at 0

-- of both the one that has been due for longer
abbrev pub earlier_due : Option DueName → DueName → DueName
earlier_due None other = other
earlier_due (Some due) other = if nat_le (moment due) (moment other) then due else other

-- the same, of a further name that may be due or not
abbrev pub sooner : ℕ → Option DueName → DueName → Option DueName
sooner now first other = if is_due now other then Some (earlier_due first other) else first

-- the host of the name that has been due for longest by a moment
abbrev pub next_in : HostNames → ℕ → Option (List ℕ)
next_in names now =
    option_map (λ (due : DueName). due.name.host.bytes) (fold (sooner now) None names.wanted.items)
