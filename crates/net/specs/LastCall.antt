-- The last call at a listener.
use Rattle.std.specs.Prelude.{ℕ, Bool, is_some}
use Rattle.net.specs.declared.last_call.LastCall.{LastCall}

-- the id in the table of the listener at which it was
abbrev pub called_id : LastCall → ℕ
called_id call = call.absent.id

-- its entry was there until then
abbrev pub was_called : LastCall → Bool
was_called call = is_some call.called
