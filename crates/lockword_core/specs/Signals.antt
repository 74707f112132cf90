-- The signals of the two semaphores.
use Rattle.std.specs.Prelude.{ℕ}
use Rattle.base_types.specs.declared.direction.Dir.{Dir}
use Rattle.base_types.specs.declared.direction.Dir.TheVariants.{Read, Write}
use Rattle.lockword_core.specs.declared.signals.Signals.{Signals}

-- the signals of a direction
abbrev pub signals_in : Dir → Signals → ℕ
signals_in Read s = s.read
signals_in Write s = s.write

-- the signals once this direction has this many
abbrev pub with_signals : Dir → ℕ → Signals → Signals
with_signals Read n s = record s { read = n }
with_signals Write n s = record s { write = n }
