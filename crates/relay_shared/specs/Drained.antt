-- What a drain did that was carried out.
use Rattle.std.specs.Prelude.{◌≡◌}
use Rattle.fd_descriptor.specs.declared.descriptor.Fd.{Fd}
use Rattle.fd_descriptor.specs.declared.descriptor.FdHandle.{FdHandle}
use Rattle.fd_descriptor.specs.FdHandle.{descriptor_of, drains_of}

module _ {X A R W C : Type 0} where
  -- a handle of this descriptor has set its drain flag
  abbrev pub WasDrained : Fd X A R W C → Type 0
  WasDrained descriptor = (handle : FdHandle X A R W C)
      × (descriptor_of handle ≡ descriptor) × (drains_of handle ≡ 1)
