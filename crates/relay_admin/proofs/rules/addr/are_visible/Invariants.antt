use Rattle.std.proofs.Common.{◌≡◌, drop}
use Rattle.std.specs.List.{list_all}
use Rattle.relay_admin.specs.rules.Addr.{is_visible}
use Rattle.relay_admin.proofs.rules.addr.are_visible.Given as goal

abbrev pub invariant-loop-byte : goal.invariant-loop-byte
invariant-loop-byte l = list_all is_visible l.text ≡ list_all is_visible (drop l.byte-index l.text)
