-- Connections that don't stand any more, and what follows of many steps.
use Rattle.std.proofs.Common.{◌≡◌, ◌∙◌, sym, ap, refl, subst, ℕ, ◌-◌, ◌≤◌, Bool, true, false, Option, Some, None, set, ⊎_elim, arith}
use Rattle.std.specs.Prelude.{slice_get, slice_set, option_and_then, if◌then◌else◌}
use Rattle.std.proofs.lemmas.List.{set-get_or}
use Rattle.std.proofs.lemmas.Option.{get_or_from_slice_get}
use Rattle.client_sources.specs.Entry.{entry_left, has_source}
use Rattle.client_sources.specs.Laws.{HasSourceRun, begins, comes, leaves}
use Rattle.client_sources.specs.Limits.{most_standing}
use Rattle.client_sources.specs.Sources.{AreFewer, HasNoSource, IsAt, IsCountedAt, NeverMore, SourceTable, ended_at, entry_in}
use Rattle.client_sources.specs.Sources.{IsTable, MayStandAt, held_left, left_in, standing_at, standing_of}
use Rattle.client_sources.specs.declared.entry.Entry.{Entry}
use Rattle.client_sources.specs.declared.limits.Limits.{Limits}
use Rattle.client_sources.specs.declared.source.Source.{Source}
use Rattle.client_sources.proofs.Places.{cases_source, same_if}
use Rattle.client_sources.proofs.Sums.{sum_changed, sum_none}

-- ---- An end

-- a place without an entry stays as it is
free_stays : (table : SourceTable) (place : ℕ) → IsAt place table None → slice_set table place None ≡ table
free_stays table place at =
    ap (λ (it : Option Entry). set table place it) (sym (get_or_from_slice_get table place None None at)) ∙ set-get_or table place None

pub ended_nothing : (table : SourceTable) (place count : ℕ) → entry_in place table ≡ None → table ≡ ended_at place count table
ended_nothing table place count none = by_case (slice_get table place) refl
  where
    by_case : (held : Option (Option Entry)) → slice_get table place ≡ held → table ≡ left_in place count held table
    by_case None at = refl
    by_case (Some None) at = sym (free_stays table place at)
    by_case (Some (Some entry)) at =
        let both : None ≡ Some entry =
        sym none ∙ ap (option_and_then (λ (held : Option Entry). held)) at in
        absurd (cc)

-- what a place has of which something is known
pub entry_at_place : (table : SourceTable) (place : ℕ) (entry : Entry) → entry_in place table ≡ Some entry
    → IsAt place table (Some entry)
entry_at_place table place entry is = by_case (slice_get table place) refl
  where
    by_case : (held : Option (Option Entry)) → slice_get table place ≡ held → IsAt place table (Some entry)
    by_case None at =
        let both : None ≡ Some entry = sym (ap (option_and_then (λ (held : Option Entry). held)) at) ∙ is in absurd (cc)
    by_case (Some held) at = at ∙ ap Some (sym (ap (option_and_then (λ (held : Option Entry). held)) at) ∙ is)

pub ended_some : (table : SourceTable) (place count : ℕ) (entry : Entry) → IsAt place table (Some entry)
    → slice_set table place (Some (entry_left count entry)) ≡ ended_at place count table
ended_some table place count entry at = sym (ap (λ (held : Option (Option Entry)). left_in place count held table) at)

-- the entry of a source may stay at its place
pub may_stay : (table : SourceTable) (place : ℕ) (entry : Entry) → IsTable table → IsAt place table (Some entry)
    → MayStandAt (Some place) entry.source table
may_stay table place entry is at =
    (is.grouped place entry at, λ other there. is.once other place entry.source there (Some entry, at, same_if entry.source entry.source refl))

fewer_at : (count : ℕ) (source : Source) (held : Option Entry) → standing_at source (held_left count held) ≤ standing_at source held
fewer_at count source None = omega arith
fewer_at count source (Some entry) = by_case (has_source source (Some entry))
  where
    by_case : (b : Bool) → (if b then entry.standing - count else 0) ≤ (if b then entry.standing else 0)
    by_case true = omega arith
    by_case false = omega arith

pub are_fewer : (table : SourceTable) (place count : ℕ) → AreFewer table (ended_at place count table)
are_fewer table place count source = by_case (slice_get table place) refl
  where
    by_case : (held : Option (Option Entry)) → slice_get table place ≡ held
        → standing_of source (left_in place count held table) ≤ standing_of source table
    by_case None at = omega arith
    by_case (Some held) at =
        let sums = sum_changed (standing_at source) table place held (held_left count held) at in
        let fewer = fewer_at count source held in
        omega (arith, sums, fewer)

-- ---- Many steps

pub counted_never_more : (source : Source) (limits : Limits) (now : ℕ) (old new : SourceTable) (place : ℕ)
    → IsCountedAt source limits now old new place → NeverMore limits old new
counted_never_more source limits now old new place is other before = ⊎_elim own another (cases_source other source)
  where
    own : other ≡ source → standing_of other new ≤ most_standing limits
    own e =
        let here : standing_of source new ≤ most_standing limits = omega (arith, is.one_more, is.stands, is.few) in
        subst (λ (it : Source). standing_of it new ≤ most_standing limits) (sym e) here

    another : (other ≡ source → ⊥) → standing_of other new ≤ most_standing limits
    another ne = omega (arith, is.others other ne, before)

pub same_never_more : (limits : Limits) (old new : SourceTable) → new ≡ old → NeverMore limits old new
same_never_more limits old new e source before =
    subst (λ (table : SourceTable). standing_of source table ≤ most_standing limits) (sym e) before

nobody : (source : Source) (table : SourceTable) → HasNoSource table → standing_of source table ≡ 0
nobody source table none =
    sum_none (standing_at source) table (λ (j : ℕ) held at. ap (standing_at source) (none j held at))

pub no_more_stand : (limits : Limits) (table : SourceTable) → HasSourceRun limits table → (source : Source)
    → standing_of source table ≤ most_standing limits
no_more_stand limits table (begins none) source = omega (arith, nobody source table none)
no_more_stand limits table (comes {old = old} other now place run is) source =
    counted_never_more other limits now old table place is source (no_more_stand limits old run source)
no_more_stand limits table (leaves {old = old} place count run is) source =
    let before = no_more_stand limits old run source in
    let fewer = are_fewer old place count source in
    let same = ap (standing_of source) is in
    omega (arith, before, fewer, same)
