-- What batches mean, in the words of who turns a poller.
use Rattle.std.specs.Prelude.{◌≡◌, ◌+◌, ◌^◌, [], ◌∷◌, ◌++◌, List}
use Rattle.conntable.specs.declared.table.Entry.{Entry}
use Rattle.conntable.specs.ConnTable.{Table, IsConsistent}
use Rattle.readiness.specs.declared.batch.Ev.{Ev}
use Rattle.readiness.specs.Batch.{batch}

-- an event of the greatest token, which is the waker's, names no entry of any table
abbrev pub WakerNamesNothing : (T : Type 0) → Type 0
WakerNamesNothing T = (t : Table T) → IsConsistent t →
    (event : Ev) → event.token + 1 ≡ 2 ^ 64 → batch t.entries (event ∷ []) ≡ []

-- a batch doesn't depend on the polls that its events came in
abbrev pub BatchesJoin : (T : Type 0) → Type 0
BatchesJoin T = (entries : List (Entry T)) (first then : List Ev) →
    batch entries (first ++ then) ≡ batch entries first ++ batch entries then
