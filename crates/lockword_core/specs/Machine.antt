-- What a machine's fields stand for. No public clause cites this module.
use Rattle.lockword_core.specs.Word.{closed_in, drain_in}
use Rattle.lockword_core.specs.LockState.{LockState, census, encoded}
use Rattle.lockword_core.specs.LockInvariant.{IsConsistent}
use Rattle.lockword_core.specs.declared.machine.Machine.TheInside.{Inside}
use Rattle.std.specs.Prelude.{◌≡◌}

-- the state whose stakes, signals and mark the machine has, and whose flags are the word's
abbrev pub state_in : Inside → LockState
state_in m =
    record {
      holders = m.holders.entries;
      closed = closed_in m.word;
      draining = drain_in m.word;
      signals = m.signals;
      destroyed_by = m.destroyed_by;
    }

-- the state is consistent, and the word is its word
pub record IsSound (m : Inside) : Type 0 where
  pub consistent : IsConsistent (state_in m)
  pub word : m.word ≡ encoded (census (state_in m))
