-- Places of a table, and the sources that stand there.
use Rattle.std.proofs.Common.{◌≡◌, ◌∙◌, sym, ap, refl, subst, ℕ, ◌+◌, ◌*◌, ◌/◌, ◌<◌, ◌≤◌, Bool, true, false, Option, Some, None, get_or, length, set, inl, inr, ⊎_elim, arith}
use Rattle.std.specs.Prelude.{◌==◌, ◌⊎◌, map, sum, slice_get, slice_set, if◌then◌else◌}
use Rattle.std.proofs.lemmas.Bool.{cases_eq}
use Rattle.std.proofs.lemmas.Bool.Decides.{nat_tests}
use Rattle.std.proofs.lemmas.List.{length-set}
use Rattle.std.proofs.lemmas.Option.{get_or_from_slice_get, same_Some, slice_get_within}
use Rattle.client_sources.specs.Entry.{has_source, let_in_at}
use Rattle.client_sources.specs.Source.{same_source, source_group}
use Rattle.client_sources.specs.Sources.{HasNoSource, IsAt, IsOfGroup, IsTable, LacksSource, MayStandAt, SourceTable, StandsAt}
use Rattle.client_sources.specs.Sources.{let_in_by, standing_at}
use Rattle.client_sources.specs.declared.entry.Entry.{Entry}
use Rattle.client_sources.specs.declared.limits.Limits.{Limits}
use Rattle.client_sources.specs.declared.source.Source.{Source}
use Rattle.client_sources.specs.declared.source.Source.TheVariants.{V4, V6}
use Rattle.client_sources.proofs.Sums.{at_changed, at_other, sum_none, sum_one}

-- ---- Sources

same_bits : (a b : ℕ) → (a == b) ≡ true → a ≡ b
same_bits a b e = grind (arith, nat_tests)

bits_same : (a : ℕ) → (a == a) ≡ true
bits_same a = grind (arith, nat_tests)

pub same_is : (one other : Source) → same_source one other ≡ true → one ≡ other
same_is (V4 a) (V4 b) e = ap V4 (same_bits a b e)
same_is (V6 a) (V6 b) e = ap V6 (same_bits a b e)
same_is (V4 a) (V6 b) e = absurd (cc)
same_is (V6 a) (V4 b) e = absurd (cc)

is_same : (source : Source) → same_source source source ≡ true
is_same (V4 a) = bits_same a
is_same (V6 a) = bits_same a

pub same_if : (one other : Source) → one ≡ other → same_source one other ≡ true
same_if one other e = ap (λ (it : Source). same_source it other) e ∙ is_same other

pub differ : (one other : Source) → (one ≡ other → ⊥) → same_source one other ≡ false
differ one other ne = by_case (same_source one other) refl
  where
    by_case : (b : Bool) → same_source one other ≡ b → same_source one other ≡ false
    by_case true e = absurd (ne (same_is one other e))
    by_case false e = e

-- two sources are one or not
pub cases_source : (one other : Source) → (one ≡ other) ⊎ (one ≡ other → ⊥)
cases_source one other = by_case (same_source one other) refl
  where
    by_case : (b : Bool) → same_source one other ≡ b → (one ≡ other) ⊎ (one ≡ other → ⊥)
    by_case true e = inl (same_is one other e)
    by_case false e = inr (λ same. absurd (let both = sym (same_if one other same) ∙ e in let no : true ≡ false = both in cc))

-- what a place has that has a source
pub record HasEntryOf (source : Source) (held : Option Entry) : Type 0 where
  pub entry : Entry
  pub is : held ≡ Some entry
  pub is_source : entry.source ≡ source

pub entry_of : (source : Source) (held : Option Entry) → has_source source held ≡ true → HasEntryOf source held
entry_of source None e = absurd (cc)
entry_of source (Some entry) e = record { entry = entry; is = refl; is_source = same_is entry.source source e }

-- the places of a group
pub in_group : (place group first : ℕ) → place / 16 ≡ group → first ≡ 16 * group → (first ≤ place) × (place < first + 16)
in_group place group first is start = (omega arith, omega arith)

-- a source that stands at no place of its group stands nowhere
pub lacks_if : (source : Source) (table : SourceTable) (first : ℕ) → IsTable table → first ≡ 16 * source_group source
    → ((place : ℕ) (held : Option Entry) → first ≤ place → place < first + 16 → IsAt place table held → has_source source held ≡ false)
    → LacksSource source table
lacks_if source table first is start none place held at = by_case (has_source source held) refl
  where
    by_case : (b : Bool) → has_source source held ≡ b → has_source source held ≡ false
    by_case true e =
        let has = entry_of source held e in
        let group : IsOfGroup source place =
        subst (λ (it : Source). IsOfGroup it place) has.is_source (is.grouped place has.entry (at ∙ ap Some has.is)) in
        let bounds = in_group place (source_group source) first group start in
        none place held bounds.0 bounds.1 at
    by_case false e = e

-- ---- A table of no source

pub all_free : (table : SourceTable) → ((k : ℕ) (d : Option Entry) → k < length table → get_or table k d ≡ None) → HasNoSource table
all_free table free place held at =
    sym (get_or_from_slice_get table place held held at) ∙ free place held (slice_get_within table place held at)

pub table_of_none : (table : SourceTable) → length table ≡ 16384 → HasNoSource table → IsTable table
table_of_none table size none = record {
  size = size;
  grouped = λ place entry at. absurd (let no : Some entry ≡ None = none place (Some entry) at in cc);
  once = λ one other source first second. absurd (nowhere one source first);
}
  where
    nowhere : (one : ℕ) (source : Source) → StandsAt source one table → ⊥
    nowhere one source stands =
        let no : true ≡ false = sym stands.2 ∙ ap (has_source source) (none one stands.0 stands.1) in absurd (cc)

-- ---- A place that changes

-- what is at a place, once one has another entry
at_put : (table : SourceTable) (place : ℕ) (held was : Option Entry) (other : ℕ) (found : Option Entry) → IsAt place table was
    → IsAt other (slice_set table place held) found
    → ((other ≡ place) × (found ≡ held)) ⊎ ((other ≡ place → ⊥) × IsAt other table found)
at_put table place held was other found at is = ⊎_elim here elsewhere (cases_eq other place)
  where
    here : other ≡ place → ((other ≡ place) × (found ≡ held)) ⊎ ((other ≡ place → ⊥) × IsAt other table found)
    here e =
        let now : Some found ≡ Some held =
        sym is ∙ ap (slice_get (set table place held)) e ∙ at_changed table place was held at in
        inl (e, same_Some found held now)

    elsewhere : (other ≡ place → ⊥) → ((other ≡ place) × (found ≡ held)) ⊎ ((other ≡ place → ⊥) × IsAt other table found)
    elsewhere ne = inr (ne, sym (at_other table place other held ne) ∙ is)

-- where a source stands, once a place has another entry
stands_put : (table : SourceTable) (place : ℕ) (entry : Entry) (was : Option Entry) (other : ℕ) (source : Source)
    → IsAt place table was → StandsAt source other (slice_set table place (Some entry))
    → ((other ≡ place) × (entry.source ≡ source)) ⊎ ((other ≡ place → ⊥) × StandsAt source other table)
stands_put table place entry was other source at stands =
    ⊎_elim here elsewhere (at_put table place (Some entry) was other stands.0 at stands.1)
  where
    here : (other ≡ place) × (stands.0 ≡ Some entry)
        → ((other ≡ place) × (entry.source ≡ source)) ⊎ ((other ≡ place → ⊥) × StandsAt source other table)
    here is =
        inl (is.0, same_is entry.source source (sym (ap (has_source source) is.1) ∙ stands.2))

    elsewhere : (other ≡ place → ⊥) × IsAt other table stands.0
        → ((other ≡ place) × (entry.source ≡ source)) ⊎ ((other ≡ place → ⊥) × StandsAt source other table)
    elsewhere is = inr (is.0, (stands.0, is.1, stands.2))

-- a table stays one, if an entry is put where its source may stand
pub table_put : (table : SourceTable) (place : ℕ) (entry : Entry) (was : Option Entry) → IsTable table → IsAt place table was
    → MayStandAt (Some place) entry.source table → IsTable (slice_set table place (Some entry))
table_put table place entry was is at may = record {
  size = length-set table place (Some entry) ∙ is.size;
  grouped = grouped;
  once = once;
}
  where
    grouped : (other : ℕ) (known : Entry) → IsAt other (slice_set table place (Some entry)) (Some known)
        → IsOfGroup known.source other
    grouped other known there = ⊎_elim here elsewhere (at_put table place (Some entry) was other (Some known) at there)
      where
        here : (other ≡ place) × (Some known ≡ Some entry) → IsOfGroup known.source other
        here e =
            let same = same_Some known entry e.1 in
            subst (λ (it : Entry). IsOfGroup it.source other) (sym same)
            (subst (λ (it : ℕ). IsOfGroup entry.source it) (sym e.0) may.0)

        elsewhere : (other ≡ place → ⊥) × IsAt other table (Some known) → IsOfGroup known.source other
        elsewhere e = is.grouped other known e.1

    may_be : (other : ℕ) (source : Source) → entry.source ≡ source → StandsAt source other table → other ≡ place
    may_be other source e stands = may.1 other (subst (λ (it : Source). StandsAt it other table) (sym e) stands)

    once : (one other : ℕ) (source : Source) → StandsAt source one (slice_set table place (Some entry))
        → StandsAt source other (slice_set table place (Some entry)) → one ≡ other
    once one other source first second =
        by_case (stands_put table place entry was one source at first) (stands_put table place entry was other source at second)
      where
        by_case : ((one ≡ place) × (entry.source ≡ source)) ⊎ ((one ≡ place → ⊥) × StandsAt source one table)
            → ((other ≡ place) × (entry.source ≡ source)) ⊎ ((other ≡ place → ⊥) × StandsAt source other table) → one ≡ other
        by_case (inl a) (inl b) = a.0 ∙ sym b.0
        by_case (inl a) (inr b) = a.0 ∙ sym (may_be other source a.1 b.1)
        by_case (inr a) (inl b) = may_be one source b.1 a.1 ∙ sym b.0
        by_case (inr a) (inr b) = is.once one other source a.1 b.1

-- ---- What counts of a source

-- a place of another source counts nothing of this
pub standing_none : (source : Source) (held : Option Entry) → has_source source held ≡ false → standing_at source held ≡ 0
standing_none source None e = refl
standing_none source (Some entry) e = ap (λ (b : Bool). if b then entry.standing else 0) e

pub let_in_none : (source : Source) (limits : Limits) (now : ℕ) (held : Option Entry) → has_source source held ≡ false
    → let_in_by source limits now held ≡ 0
let_in_none source limits now None e = refl
let_in_none source limits now (Some entry) e = ap (λ (b : Bool). if b then let_in_at limits now entry else 0) e

pub standing_own : (source : Source) (entry : Entry) → entry.source ≡ source → standing_at source (Some entry) ≡ entry.standing
standing_own source entry e = ap (λ (b : Bool). if b then entry.standing else 0) (same_if entry.source source e)

pub let_in_own : (source : Source) (limits : Limits) (now : ℕ) (entry : Entry) → entry.source ≡ source
    → let_in_by source limits now (Some entry) ≡ let_in_at limits now entry
let_in_own source limits now entry e =
    ap (λ (b : Bool). if b then let_in_at limits now entry else 0) (same_if entry.source source e)

-- the places of a source that has none count nothing
pub sum_lacking : (f : Option Entry → ℕ) (source : Source) (table : SourceTable)
    → ((held : Option Entry) → has_source source held ≡ false → f held ≡ 0) → LacksSource source table → sum (map f table) ≡ 0
sum_lacking f source table none lacks = sum_none f table (λ (j : ℕ) held at. none held (lacks j held at))

-- the place of a source counts alone
pub sum_standing : (f : Option Entry → ℕ) (source : Source) (table : SourceTable) (place : ℕ) (held : Option Entry)
    → ((held : Option Entry) → has_source source held ≡ false → f held ≡ 0) → IsTable table → IsAt place table held
    → has_source source held ≡ true → sum (map f table) ≡ f held
sum_standing f source table place held none is at has = sum_one f table place held at others
  where
    others : (other : ℕ) (found : Option Entry) → (other ≡ place → ⊥) → slice_get table other ≡ Some found → f found ≡ 0
    others other found ne there = none found (by_case (has_source source found) refl)
      where
        by_case : (b : Bool) → has_source source found ≡ b → has_source source found ≡ false
        by_case true e = absurd (ne (is.once other place source (found, there, e) (held, at, has)))
        by_case false e = e
