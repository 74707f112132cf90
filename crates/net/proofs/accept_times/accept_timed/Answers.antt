use Rattle.net.proofs.Accepts.{accept_told}
use Rattle.net.proofs.accept_times.accept_timed.Goals as goal

-- what the half tells
pub returns-in-Some-poll_accept : goal.returns-in-Some-poll_accept
returns-in-Some-poll_accept g c = record {
  faults = accept_told _ _ _ c.in-Some-poll_accept.answer c.in-Some-poll_accept.ensures.allowed;
}
