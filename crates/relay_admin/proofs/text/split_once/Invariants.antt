use Rattle.std.proofs.Common.{◌≡◌, take, drop}
use Rattle.relay_admin.specs.TextReading.{split_at_first}
use Rattle.relay_admin.proofs.TextLemmas.{onto_all}
use Rattle.relay_admin.proofs.text.split_once.Given as goal

abbrev pub invariant-loop-i : goal.invariant-loop-i
invariant-loop-i l = split_at_first l.byte l.text ≡ onto_all (take l.i l.text) (split_at_first l.byte (drop l.i l.text))
