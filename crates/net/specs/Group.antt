-- A group of connections, as its callers see it.
use Rattle.std.specs.Prelude.{◌≡◌, ◌⊎◌, Result, IfErr}
use Rattle.std.specs.Arc.{arc_value}
use Rattle.std.specs.IoError.{error_kind}
use Rattle.std.specs.declared.io.Error.{Error}
use Rattle.std.specs.declared.io.ErrorKind.TheVariants.{NotConnected, OutOfMemory}
use Rattle.net.specs.declared.group.Common.{Common}
use Rattle.net.specs.declared.group.ConnGroup.{ConnGroup}
use Rattle.net.specs.declared.group.Member.{Member}

-- nobody joins a group that was ended, or where memory is refused
abbrev pub FailsToJoin : {T : Type 0} → Result T Error → Type 0
FailsToJoin result =
    IfErr result (λ error. (error_kind error ≡ NotConnected) ⊎ (error_kind error ≡ OutOfMemory))

module _ {R : Type 0} where
  -- what all have in common who are in a group
  abbrev pub group_of : ConnGroup R → Common R
  group_of group = arc_value group.common

  -- the same of the group that a member is in
  abbrev pub group_in : Member R → Common R
  group_in member = arc_value member.common
