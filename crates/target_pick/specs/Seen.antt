-- Which targets may take a client, and how many turns each has.
use Rattle.std.specs.Prelude.{◌+◌, ℕ, Bool, not, ◌&&◌, List, [], ◌∷◌, map, nat_lt, if◌then◌else◌}
use Rattle.std.specs.List.{list_any}
use Rattle.target_pick.specs.declared.seen.Seen.{Seen}

-- it is up, not drained, not tried for this client, and has turns
abbrev pub may_take : Seen → Bool
may_take target =
    target.is_up && (not target.is_drained && (not target.was_tried && nat_lt 0 target.weight))

-- it may take the client, and is no backup
abbrev pub takes_before_backups : Seen → Bool
takes_before_backups target = may_take target && not target.is_backup

-- backups are asked: no other target may take the client
abbrev pub asks_backups : List Seen → Bool
asks_backups targets = not (list_any takes_before_backups targets)

-- both or neither
abbrev pub same : Bool → Bool → Bool
same one other = if one then other else not other

-- the turns of a target where backups are asked, or where they aren't
abbrev pub share_of : Bool → Seen → ℕ
share_of backups target =
    if may_take target && same target.is_backup backups then target.weight else 0

-- the turns of each target
abbrev pub shares_of : List Seen → List ℕ
shares_of targets = map (share_of (asks_backups targets)) targets

-- what numbers come to
abbrev pub total : List ℕ → ℕ
total [] = 0
total (number ∷ numbers) = number + total numbers
