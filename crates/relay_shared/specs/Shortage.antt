-- Connects that fail for want of what the relay's own system gives.
use Rattle.std.specs.Prelude.{◌≡◌, ◌⊎◌, pos, Some}
use Rattle.std.specs.IoError.{raw_os_error}
use Rattle.std.specs.declared.io.Error.{Error}

-- there is no memory, no descriptor of the system or of the process, no port or no such address of its
-- own, or no buffer: ENOMEM, ENFILE, EMFILE, EADDRINUSE, EADDRNOTAVAIL and ENOBUFS of Linux
abbrev pub IsShortage : Error → Type 0
IsShortage error = (raw_os_error error ≡ Some (pos 12)) ⊎ ((raw_os_error error ≡ Some (pos 23))
    ⊎ ((raw_os_error error ≡ Some (pos 24)) ⊎ ((raw_os_error error ≡ Some (pos 98))
    ⊎ ((raw_os_error error ≡ Some (pos 99)) ⊎ (raw_os_error error ≡ Some (pos 105))))))
