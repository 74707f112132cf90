-- What a drain did that a handle was made for.
use Rattle.std.proofs.Common.{◌≡◌, ◌∙◌, Result, Ok, Err, arith}
use Rattle.std.specs.Prelude.{OnOk}
use Rattle.rwloops.specs.declared.fault.Fault.{Fault}
use Rattle.fd_descriptor.specs.declared.descriptor.Fd.{Fd}
use Rattle.fd_descriptor.specs.declared.descriptor.FdHandle.{FdHandle}
use Rattle.fd_descriptor.specs.FdHandle.{descriptor_of, drains_of, KeepsHandle, DidNothing}
use Rattle.fd_descriptor.specs.HandleCalls.{TellsWhoDrained}
use Rattle.relay_shared.specs.Drained.{WasDrained}

module _ {X A R W C : Type 0} where
  -- a drain that is Ok was made by the handle, which had drained nothing before
  pub was_drained : (descriptor : Fd X A R W C) (before after : FdHandle X A R W C)
      (result : Result (Unit {0}) Fault) → descriptor_of before ≡ descriptor → DidNothing before
      → KeepsHandle before after → TellsWhoDrained result (drains_of before) (drains_of after)
      → OnOk result (WasDrained descriptor)
  was_drained descriptor before after (Ok done) same idle keeps told =
      let none = idle.no_drain in (after, keeps.same ∙ same, omega (arith, told, none))
  was_drained descriptor before after (Err fault) same idle keeps told = tt
