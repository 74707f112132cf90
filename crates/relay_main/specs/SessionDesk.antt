-- What an admin session is answered.
use Rattle.std.specs.Prelude.{◌≡◌, ◌⊎◌, Option, Some, None, Result, Ok, Err}
use Rattle.rwloops.specs.declared.fault.Fault.{Fault}
use Rattle.rwloops.specs.declared.fault.Fault.TheVariants as fault
use Rattle.relay_admin.specs.declared.admin.answers.CloseAnswer.{CloseAnswer}
use Rattle.relay_admin.specs.declared.admin.answers.CloseAnswer.TheVariants as closing
use Rattle.relay_admin.specs.declared.admin.answers.LateAnswer.{LateAnswer}
use Rattle.relay_admin.specs.declared.admin.answers.LateAnswer.TheVariants as late
use Rattle.relay_admin.specs.declared.admin.answers.SteerAnswer.{SteerAnswer}
use Rattle.relay_admin.specs.declared.admin.answers.SteerAnswer.TheVariants as steering
use Rattle.relay_shared.specs.declared.requests.Answer.{Answer}
use Rattle.relay_shared.specs.declared.requests.Answer.TheVariants as answer

-- the answer to the close of a listener that ended so, where there was one: a device's fault at the
-- destroy leaves it closed
abbrev pub closed_answer : Option (Result (Unit {0}) Fault) → CloseAnswer
closed_answer None = closing.Unknown
closed_answer (Some (Ok done)) = closing.Fine
closed_answer (Some (Err (fault.Device kind))) = closing.Fine
closed_answer (Some (Err fault.TooMany)) = closing.Busy
closed_answer (Some (Err fault.OutOfMemory)) = closing.NoMemory
closed_answer (Some (Err other)) = closing.Closed

-- the answer to a drain or a deadline that ended so, where there was what was asked: likewise
abbrev pub steered_answer : Option (Result (Unit {0}) Fault) → SteerAnswer
steered_answer None = steering.Unknown
steered_answer (Some (Ok done)) = steering.Fine
steered_answer (Some (Err (fault.Device kind))) = steering.Fine
steered_answer (Some (Err fault.TooMany)) = steering.Busy
steered_answer (Some (Err fault.OutOfMemory)) = steering.NoMemory
steered_answer (Some (Err fault.Draining)) = steering.Draining
steered_answer (Some (Err other)) = steering.Closed

-- the answer to what a loop was asked
abbrev pub late_answer : Answer → LateAnswer
late_answer (answer.Close (Some gone)) = late.Close closing.Fine
late_answer (answer.Close None) = late.Close closing.Unknown
late_answer (answer.Drain done) = late.Drain (steered_answer done)
late_answer (answer.Deadline done) = late.Deadline (steered_answer done)

-- the answer to a drain or a deadline of which no loop was asked: no connection has the id, or memory
-- was refused
abbrev pub IsNotSteered : SteerAnswer → Type 0
IsNotSteered answer = (answer ≡ steering.Unknown) ⊎ (answer ≡ steering.NoMemory)
