-- Look-ups that find nothing, and batches of joined events.
use Rattle.std.proofs.Common.{◌≡◌, ◌≢◌, ap, refl, ℕ, ◌+◌, ◌^◌, ◌%◌, ◌<◌, inl, inr, List, [], ◌∷◌}
use Rattle.std.proofs.Common.{get_or, None, arith}
use Rattle.std.specs.Prelude.{All}
use Rattle.std.specs.Option.{option_map}
use Rattle.std.specs.List.{filter_map}
use Rattle.std.proofs.lemmas.List.Elements.{All-head, All-tail, filter_map-append}
use Rattle.std.proofs.lemmas.Bool.Decides.{eqb_tells}
use Rattle.conntable.specs.declared.table.Entry.{Entry}
use Rattle.conntable.specs.Token.{key_of}
use Rattle.conntable.specs.ConnTable.{Table, IsConsistent, entry_with_token, id_with_token}
use Rattle.readiness.specs.declared.batch.Ev.{Ev}
use Rattle.readiness.specs.Batch.{ready_of}
use Rattle.readiness.specs.Laws.{WakerNamesNothing, BatchesJoin}

module _ {T : Type 0} where
  -- no entry has this token: it finds nothing
  finds_nothing : (token : ℕ) (es : List (Entry T)) → All (λ e. e.token ≢ token) es → entry_with_token token es ≡ None
  finds_nothing token [] away = refl
  finds_nothing token (e ∷ es) away = elim (eqb_tells e.token token) [
    | inl same ↦ absurd (All-head (λ f. f.token ≢ token) e es away same.1)
    | inr other ↦ rw other.0 (finds_nothing token es (All-tail (λ f. f.token ≢ token) e es away))
  ]

  -- no entry of a consistent table has the greatest token
  greatest_is_away : (t : Table T) → IsConsistent t → (token : ℕ) → token + 1 ≡ 2 ^ 64
      → All (λ e. e.token ≢ token) t.entries
  greatest_is_away t is token greatest = λ k d within equal.
      let e = get_or t.entries k d in
      let made = is.tokens k d within in
      let last = (is.ids k d within).2 in
      let low : key_of e.token < 4096 = below e.token in
      absurd (omega arith)
    where
      below : (n : ℕ) → n % 4096 < 4096
      below n = omega arith

pub the_waker_names_nothing : {T : Type 0} → WakerNamesNothing T
the_waker_names_nothing {T} t is event greatest =
    let none = finds_nothing event.token t.entries (greatest_is_away t is event.token greatest) in
    ap (λ found. filter_map (λ (e : Ev). option_map (ready_of e) (option_map (λ f. f.id) found)) (event ∷ [])) none

pub batches_join : {T : Type 0} → BatchesJoin T
batches_join {T} entries first then =
    filter_map-append (λ event. option_map (ready_of event) (id_with_token event.token entries)) first then
