use Rattle.std.proofs.Common.{◌≡◌, take}
use Rattle.target_pick.specs.Source.{source_number}
use Rattle.target_pick.proofs.source.source_number.Given as goal

abbrev pub invariant-loop-byte : goal.invariant-loop-byte
invariant-loop-byte l = l.hash ≡ source_number (take l.byte-index l.address)
