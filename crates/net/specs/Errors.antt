-- Which error of the standard library tells a fault, with the system's number.
use Rattle.std.specs.Prelude.{◌≡◌, ◌≢◌}
use Rattle.std.specs.IoError.{error_kind}
use Rattle.std.specs.declared.io.Error.{Error}
use Rattle.std.specs.declared.io.ErrorKind.{ErrorKind}
use Rattle.std.specs.declared.io.ErrorKind.TheVariants.{Interrupted, WouldBlock}
use Rattle.rwloops.specs.declared.fault.Fault.{Fault}
use Rattle.rwloops.specs.declared.fault.Fault.TheVariants as fault
use Rattle.rwloops.specs.declared.outcome.DevKind.TheVariants as device
use Rattle.handle_io.specs.Kinds.{kind_told}

-- an error of the system's of this kind may be what the fault was made of: those that have a name of their
-- own by their kind, and all others but those after which callers try again
abbrev pub Fits : Fault → ErrorKind → Type 0
Fits (fault.Device device.Other) kind = (kind ≢ Interrupted) × (kind ≢ WouldBlock)
Fits (fault.Device named) kind = kind ≡ kind_told (fault.Device named)
Fits _ kind = ⊥

-- The error tells the fault: by the kind of the table, and of a fault of the device without a name of its
-- own by any kind, but those after which callers try again.
abbrev pub Tells : Fault → Error → Type 0
Tells (fault.Device device.Other) error =
    (error_kind error ≢ Interrupted) × (error_kind error ≢ WouldBlock)
Tells told error = error_kind error ≡ kind_told told
