use Rattle.std.proofs.Common.{◌≡◌, drop}
use Rattle.std.specs.List.{list_all}
use Rattle.config_values.specs.HostName.{is_label_byte}
use Rattle.config_values.proofs.host_name.are_label_bytes.Given as goal

abbrev pub invariant-loop-byte : goal.invariant-loop-byte
invariant-loop-byte l = list_all is_label_byte l.text ≡ list_all is_label_byte (drop l.byte-index l.text)
