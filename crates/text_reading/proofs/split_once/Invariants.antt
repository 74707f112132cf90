use Rattle.std.proofs.Common.{◌≡◌, take, drop}
use Rattle.text_reading.specs.Reading.{split_at_first}
use Rattle.text_reading.proofs.TextLemmas.{onto_all}
use Rattle.text_reading.proofs.split_once.Given as goal

abbrev pub invariant-loop-i : goal.invariant-loop-i
invariant-loop-i l = split_at_first l.byte l.text ≡ onto_all (take l.i l.text) (split_at_first l.byte (drop l.i l.text))
