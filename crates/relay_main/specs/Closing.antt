-- What a close did that was carried out.
use Rattle.std.specs.Prelude.{◌≡◌, ◌≤◌}
use Rattle.fd_descriptor.specs.declared.descriptor.Fd.{Fd}
use Rattle.fd_descriptor.specs.declared.descriptor.FdHandle.{FdHandle}
use Rattle.fd_descriptor.specs.FdHandle.{descriptor_of, closes_of}

module _ {X A R W C : Type 0} where
  -- a handle of this descriptor has closed it
  abbrev pub WasClosed : Fd X A R W C → Type 0
  WasClosed descriptor = (handle : FdHandle X A R W C)
      × (descriptor_of handle ≡ descriptor) × (1 ≤ closes_of handle)
