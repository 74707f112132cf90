use Rattle.std.proofs.Common.{◌≡◌, ◌<◌, ◌≤◌, ℕ, false, Option}
use Rattle.client_sources.specs.Entry.{has_source}
use Rattle.client_sources.specs.Sources.{IsAt}
use Rattle.client_sources.specs.declared.entry.Entry.{Entry}
use Rattle.client_sources.proofs.sources.Sources.place_of.Given as goal

abbrev pub invariant-loop-place : goal.invariant-loop-place
invariant-loop-place l =
    (place : ℕ) (held : Option Entry) → l.first ≤ place → place < l.place → IsAt place l.places held
    → has_source l.source held ≡ false
