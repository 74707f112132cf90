use Rattle.std.proofs.Common.{◌≡◌, ◌++◌, take}
use Rattle.std.specs.List.{flat_map}
use Rattle.relay_log.specs.Json.{string_byte}
use Rattle.relay_log.proofs.json.write_escaped.Given as goal

abbrev pub invariant-loop-byte : goal.invariant-loop-byte
invariant-loop-byte g l =
    l.into.items ≡ l.initial.into.items ++ flat_map string_byte (take l.byte-index l.text)
