-- What turns of the thread come to.
use Rattle.std.specs.Prelude.{◌≡◌, ◌⊎◌, Result, Ok, Err}
use Rattle.stream_base.specs.declared.attempt.AttemptError.{AttemptError}
use Rattle.stream_base.specs.declared.attempt.AttemptError.TheVariants as attempt
use Rattle.log_writer.specs.declared.turn.Turn.{Turn}
use Rattle.log_writer.specs.declared.turn.Turn.TheVariants.{Empty, Written, Interrupted, Failed}

-- the turn that wrote so
abbrev pub turn_of : {A : Type 0} → Result A AttemptError → Turn
turn_of (Ok x) = Written
turn_of (Err attempt.Interrupted) = Interrupted
turn_of (Err attempt.Failed) = Failed

-- another turn at once would come to nothing: nothing waits, or the device failed
abbrev pub IsStuck : Turn → Type 0
IsStuck turn = (turn ≡ Empty) ⊎ (turn ≡ Failed)
