-- Why a client is dropped as it is accepted.
use Rattle.std.specs.Prelude.{⊤}
use Rattle.relay_log.specs.declared.ended.Ended.{Ended}
use Rattle.relay_log.specs.declared.ended.Ended.TheVariants.{Denied, Full, RuleFull, SourceFull, SourceRate, NoMemory}

-- the lists of its rule don't let it in, as many connections stand as may, on the whole or of its
-- rule, there are enough of its source, or memory was refused
abbrev pub IsDrop : Ended → Type 0
IsDrop Denied = ⊤
IsDrop Full = ⊤
IsDrop RuleFull = ⊤
IsDrop SourceFull = ⊤
IsDrop SourceRate = ⊤
IsDrop NoMemory = ⊤
IsDrop other = ⊥

-- as many connections stand as may, on the whole or of its rule
abbrev pub IsWantOfRoom : Ended → Type 0
IsWantOfRoom Full = ⊤
IsWantOfRoom RuleFull = ⊤
IsWantOfRoom other = ⊥
