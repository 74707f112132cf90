use Rattle.std.proofs.Common.{◌≡◌, ◌<◌, ◌≤◌, ℕ, false, Option}
use Rattle.client_sources.specs.Entry.{is_vacant}
use Rattle.client_sources.specs.Sources.{IsAt}
use Rattle.client_sources.specs.declared.entry.Entry.{Entry}
use Rattle.client_sources.proofs.sources.Sources.vacant_for.Given as goal

abbrev pub invariant-loop-place : goal.invariant-loop-place
invariant-loop-place l =
    (place : ℕ) (held : Option Entry) → l.first ≤ place → place < l.place → IsAt place l.places held
    → is_vacant l.limits l.now held ≡ false
