use Rattle.std.proofs.Common.{◌≡◌, drop}
use Rattle.relay_admin.specs.rules.Grammar.{entry_of, entries_of}
use Rattle.relay_admin.specs.rules.Reading.{finds_listen}
use Rattle.relay_admin.proofs.rules.file.has_listen.Given as goal

abbrev pub invariant-loop-other : goal.invariant-loop-other
invariant-loop-other l =
    finds_listen (entry_of l.rule).listen (entries_of l.rules) ≡ finds_listen (entry_of l.rule).listen
    (entries_of (drop l.other-index l.rules))
