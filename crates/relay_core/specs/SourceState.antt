-- When nothing is left to read from a source.
use Rattle.std.specs.Prelude.{◌≡◌, ◌<◌, ◌||◌, ℕ, Bool, true, false}
use Rattle.relay_core.specs.declared.source_state.SourceState.{SourceState}

-- nothing is known of a source but whether it is over TCP
abbrev pub unknown_source : Bool → SourceState
unknown_source is_tcp = record { is_tcp = is_tcp; stop_ahead = false; is_empty = false }

-- its way is resumed: there may be more, and where it is told so, reads stop somewhere ahead
abbrev pub resumed : SourceState → Bool → SourceState
resumed state stop_ahead = record {
  is_tcp = state.is_tcp;
  stop_ahead = state.stop_ahead || stop_ahead;
  is_empty = false;
}

-- a read that gave so many bytes, into room for so many, has read all that was there: over TCP it
-- comes short only there, unless reads stop somewhere ahead
abbrev pub ReadsAll : SourceState → (room count : ℕ) → Type 0
ReadsAll state room count =
    (state.is_tcp ≡ true) × (state.stop_ahead ≡ false) × (count < room)
