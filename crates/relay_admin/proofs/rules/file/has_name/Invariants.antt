use Rattle.std.proofs.Common.{◌≡◌, drop}
use Rattle.relay_admin.specs.rules.Grammar.{entry_of, entries_of}
use Rattle.relay_admin.specs.rules.Reading.{finds_name}
use Rattle.relay_admin.proofs.rules.file.has_name.Given as goal

abbrev pub invariant-loop-other : goal.invariant-loop-other
invariant-loop-other l = finds_name (entry_of l.rule).name (entries_of l.rules) ≡ finds_name (entry_of l.rule).name
    (entries_of (drop l.other-index l.rules))
