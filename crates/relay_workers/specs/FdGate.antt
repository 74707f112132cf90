-- A gate over two descriptors, as callers see it, and what its calls set.
use Rattle.std.specs.Prelude.{◌+◌, ◌*◌, ◌-◌, ◌^◌, ℕ, Option, min}
use Rattle.std.specs.declared.alloc.Global.{Global}
use Rattle.deadline_core.specs.declared.deadline.Deadline.TheVariants.{At}
use Rattle.deadline_core.specs.declared.deadline.Dirs.{Dirs}
use Rattle.fd_descriptor.specs.Deadlines.{setting_of}
use Rattle.fd_descriptor.specs.declared.deadlines.Setting.{Setting}
use Rattle.fd_descriptor.specs.declared.descriptor.FdHandle.{FdHandle}
use Rattle.relay_workers.specs.declared.fd_gate.FdGate.{FdGate}

-- the deadline of these directions that lies so many milliseconds after now
abbrev pub idle_setting : Dirs → (now ms : ℕ) → Setting
idle_setting dirs now ms = setting_of dirs (At (min (now + ms * 1000000) (2 ^ 64 - 1))) now

module _ {X R C A P Q K : Type 0} where
  -- its idle time in milliseconds, if it has one
  abbrev pub gate_idle : FdGate X R C A P Q K → Option ℕ
  gate_idle gate = gate.idle_ms

  -- the descriptor that it reads
  abbrev pub gate_source : FdGate X R C A P Q K → FdHandle X Global P Q K
  gate_source gate = gate.source

  -- the descriptor that it writes
  abbrev pub gate_target : FdGate X R C A P Q K → FdHandle X Global P Q K
  gate_target gate = gate.target
