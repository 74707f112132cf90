-- A Unix path that gives way to a listener.
use Rattle.std.specs.Prelude.{◌≡◌, Result, Err}
use Rattle.arrayvec.specs.declared.array_string.ArrayString.{ArrayString}
use Rattle.readiness.specs.declared.sock.Sock.{Sock}
use Rattle.rwloops.specs.declared.outcome.DevKind.{DevKind}
use Rattle.rwloops.specs.declared.outcome.DevKind.TheVariants.{Refused}
use Rattle.relay_shared.specs.declared.stale_path.StalePath.{StalePath}

-- a connect was refused: nobody listens there
abbrev pub RefusesConnect : Result Sock DevKind → Type 0
RefusesConnect connected = connected ≡ Err Refused

-- the path that gives way
abbrev pub stale_path : StalePath → ArrayString 100
stale_path stale = stale.path
