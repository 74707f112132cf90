-- What an admin session does after its reads and writes.
use Rattle.std.specs.Prelude.{ℕ, Bool, true, false, List, [], drop, Option, Some, None, Result, Ok, Err}
use Rattle.rwloops.specs.declared.fault.Fault.{Fault}
use Rattle.rwloops.specs.declared.fault.Fault.TheVariants as fault
use Rattle.relay_admin.specs.declared.admin.end.AdminEnd.{AdminEnd}
use Rattle.relay_admin.specs.declared.admin.end.AdminEnd.TheVariants as ends
use Rattle.relay_main.specs.declared.session.SessionStep.{SessionStep}
use Rattle.relay_main.specs.declared.session.SessionStep.TheVariants.{Waits, Again, Over, Stops}
use Rattle.relay_admin.specs.admin.ReplyBytes.{bytes_of}
use Rattle.relay_admin.specs.declared.admin.line_reply.LineReply.{LineReply}
use Rattle.relay_admin.specs.declared.admin.line_reply.LineReply.TheVariants as line
use Rattle.relay_main.specs.declared.session_state.State.{State}
use Rattle.relay_main.specs.declared.session_state.State.TheVariants as does
use Rattle.relay_main.specs.declared.session.Heard.{Heard}
use Rattle.relay_main.specs.declared.session.Heard.TheVariants.{Nothing, Bytes, End, Failed}

-- a reply is out by which the session ends so, if it does
abbrev pub after_reply : Option AdminEnd → SessionStep
after_reply None = Again
after_reply (Some ends.Stop) = Stops
after_reply (Some end) = Over

-- a client hasn't taken such a reply yet: a stop doesn't wait for it
abbrev pub while_owed : Option AdminEnd → SessionStep
while_owed (Some ends.Stop) = Stops
while_owed end = Waits

-- such a reply couldn't be written: that of a client that has gone counts as out
abbrev pub after_fault : Fault → Option AdminEnd → SessionStep
after_fault (fault.Device kind) end = after_reply end
after_fault other end = Over

-- what a read came to that didn't wait: a failed one isn't the end, so that a line which was cut off
-- isn't taken for a whole one
abbrev pub told_of_read : Option (Result ℕ Fault) → Heard
told_of_read None = Nothing
told_of_read (Some (Ok count)) = Bytes count
told_of_read (Some (Err fault.EndOfFile)) = End
told_of_read (Some (Err other)) = Failed

-- its line is answered later
abbrev pub is_held : State → Bool
is_held does.Held = true
is_held other = false

-- it has something to write, or its line is answered later: no line is answered before
abbrev pub is_busy : State → Bool
is_busy does.Reading = false
is_busy (does.Replying writing end) = true
is_busy (does.Listing listing None end) = false
is_busy (does.Listing listing (Some writing) end) = true
is_busy does.Held = true

-- how it ends behind what it does, if it does
abbrev pub end_behind : State → Option AdminEnd
end_behind (does.Replying writing end) = end
end_behind (does.Listing listing writing end) = end
end_behind other = None

-- the bytes of the reply, or of the line of a listing, that aren't written yet
abbrev pub to_write : State → List ℕ
to_write (does.Replying writing end) = drop writing.written (bytes_of writing.reply)
to_write (does.Listing listing (Some writing) end) = drop writing.written (bytes_of writing.reply)
to_write other = []

-- the text of a reply, where it is whole
abbrev pub whole_text : {A : Type 0} → LineReply A → List ℕ
whole_text (line.Whole reply) = bytes_of reply
whole_text (line.Each listing) = []
