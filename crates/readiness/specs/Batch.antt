-- What a batch of events makes ready.
use Rattle.std.specs.Prelude.{◌||◌, ℕ, Bool, List}
use Rattle.std.specs.Option.{option_map}
use Rattle.std.specs.List.{filter_map}
use Rattle.conntable.specs.declared.table.Entry.{Entry}
use Rattle.conntable.specs.ConnTable.{id_with_token}
use Rattle.mio.specs.declared.event.event.Event.{Event}
use Rattle.mio.specs.Event.{event_token, is_readable, is_writable, is_error, is_read_closed}
use Rattle.mio.specs.Event.{is_write_closed, is_priority}
use Rattle.readiness.specs.declared.batch.Ev.{Ev}
use Rattle.readiness.specs.declared.batch.Ready.{Ready}

-- what an event of the system's says
abbrev pub ev_of : Event → Ev
ev_of event = record {
  token = (event_token event).0;
  readable = is_readable event;
  writable = is_writable event;
  read_closed = is_read_closed event;
  write_closed = is_write_closed event;
  error = is_error event;
  urgent = is_priority event;
}

-- a read may go on: there are bytes, or their end, or a fault
abbrev pub read_ready : Ev → Bool
read_ready event = event.readable || (event.read_closed || event.error)

-- a write may go on: there is room, or its end, or a fault
abbrev pub write_ready : Ev → Bool
write_ready event = event.writable || (event.write_closed || event.error)

-- reads stop somewhere ahead: at the peer's end, at a fault, or at urgent data
abbrev pub stop_ahead : Ev → Bool
stop_ahead event = event.read_closed || (event.error || event.urgent)

-- what an event makes ready of the entry with this id
abbrev pub ready_of : Ev → ℕ → Ready
ready_of event id = record { id = id; read = read_ready event; write = write_ready event }

-- for each event whose token names an entry, what it makes ready of it
abbrev pub batch : {T : Type 0} → List (Entry T) → List Ev → List Ready
batch entries events =
    filter_map (λ event. option_map (ready_of event) (id_with_token event.token entries)) events
