use Rattle.std.proofs.Common.{◌≡◌, ◌++◌, drop, map}
use Rattle.relay_config.specs.Entries.{target_entry}
use Rattle.relay_settings.specs.Meaning.{named_entry, names_from}
use Rattle.relay_settings.proofs.served.names_of.Given as goal

abbrev pub invariant-loop-place : goal.invariant-loop-place
invariant-loop-place l =
    names_from 0 (map target_entry l.targets)
    ≡ map named_entry l.found.items ++ names_from l.place (map target_entry (drop l.place l.targets))
