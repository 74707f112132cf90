use Rattle.std.proofs.Common.{◌≡◌, drop}
use Rattle.std.specs.List.{list_all}
use Rattle.config_values.specs.Addr.{is_visible}
use Rattle.config_values.proofs.addr.are_visible.Given as goal

abbrev pub invariant-loop-byte : goal.invariant-loop-byte
invariant-loop-byte l = list_all is_visible l.text ≡ list_all is_visible (drop l.byte-index l.text)
