use Rattle.std.proofs.Common.{◌≡◌, map, take}
use Rattle.std.specs.Prelude.{filter_map}
use Rattle.relay_main.specs.Followed.{followed_by, follows}
use Rattle.relay_main.proofs.followed.followed_of.Given as goal

abbrev pub invariant-loop-one : goal.invariant-loop-one
invariant-loop-one l =
    map followed_by l.all.items ≡ filter_map (follows l.standing l.accounts) (take l.one-index l.keep)
