use Rattle.std.proofs.Common.{◌≡◌, take}
use Rattle.relay_shared.specs.BoundPath.{paths_in}
use Rattle.relay_main.specs.Reload.{paths_left}
use Rattle.relay_main.proofs.reload.remove_paths_of.Given as goal

abbrev pub invariant-loop-one : goal.invariant-loop-one
invariant-loop-one g l =
    paths_in l.paths ≡ paths_left (take l.one-index l.listeners) (paths_in l.initial.paths)
