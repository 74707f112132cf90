use Rattle.std.proofs.Common.{◌≡◌}
use Rattle.relay_facts.proofs.host_names.HostNames.note_due.Given as goal

abbrev pub invariant-loop-place : goal.invariant-loop-place
invariant-loop-place l = l.self.answers ≡ l.initial.self.answers
