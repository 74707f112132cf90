-- What a close did that a handle made.
use Rattle.std.proofs.Common.{◌≡◌, ◌∙◌, Result, Ok, Err, arith}
use Rattle.std.specs.Prelude.{OnOk}
use Rattle.rwloops.specs.declared.fault.Fault.{Fault}
use Rattle.fd_descriptor.specs.declared.descriptor.Fd.{Fd}
use Rattle.fd_descriptor.specs.declared.descriptor.FdHandle.{FdHandle}
use Rattle.fd_descriptor.specs.FdHandle.{descriptor_of, closes_of, KeepsHandle}
use Rattle.fd_descriptor.specs.HandleCalls.{TellsWhoClosed}
use Rattle.relay_main.specs.Closing.{WasClosed}

module _ {X A R W C : Type 0} where
  -- a close that is Ok was made by its handle
  pub was_closed : (descriptor : Fd X A R W C) (before after : FdHandle X A R W C)
      (result : Result (Unit {0}) Fault) → descriptor_of before ≡ descriptor → KeepsHandle before after
      → TellsWhoClosed result (closes_of before) (closes_of after) → OnOk result (WasClosed descriptor)
  was_closed descriptor before after (Ok done) same keeps told =
      (after, keeps.same ∙ same, omega (arith, told))
  was_closed descriptor before after (Err fault) same keeps told = tt
