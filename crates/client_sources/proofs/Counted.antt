-- A client that comes, and one that ends.
use Rattle.std.proofs.Common.{◌≡◌, ◌∙◌, sym, ap, refl, subst, ℕ, ◌+◌, ◌<◌, ◌≤◌, Bool, true, false, Option, Some, None, Result, Ok, Err, arith}
use Rattle.std.specs.Prelude.{◌==◌, ◌&&◌, nat_le, IfNone, IfSome, slice_get, slice_set, option_and_then, if◌then◌else◌}
use Rattle.std.proofs.lemmas.Bool.Decides.{nat_tests}
use Rattle.client_sources.specs.Entry.{admission, entry_at, has_source, is_time_over, is_vacant}
use Rattle.client_sources.specs.Entry.{let_in_at, new_entry, with_one_more}
use Rattle.client_sources.specs.Limits.{most_let_in, most_standing}
use Rattle.client_sources.specs.Sources.{IsAt, IsCountedAt, IsTable, IsVacantFor, LacksSource, MayHave, OthersStand}
use Rattle.client_sources.specs.Sources.{RunsSince, SourceTable, StandsAt, known_at, known_or, let_in_by, let_in_of}
use Rattle.client_sources.specs.Sources.{standing_at, standing_of}
use Rattle.client_sources.specs.declared.entry.Entry.{Entry}
use Rattle.client_sources.specs.declared.limits.Limits.{Limits}
use Rattle.client_sources.specs.declared.limits.Refusal.{Refusal}
use Rattle.client_sources.specs.declared.limits.Refusal.TheVariants as refusal
use Rattle.client_sources.specs.declared.source.Source.{Source}
use Rattle.client_sources.proofs.Places.{differ, entry_of, let_in_none, let_in_own, standing_none, standing_own}
use Rattle.client_sources.proofs.Places.{sum_lacking, sum_standing}
use Rattle.client_sources.proofs.Sums.{sum_changed}

-- ---- What a table knows of a source

pub record IsKnown (source : Source) (limits : Limits) (now : ℕ) (table : SourceTable) (entry : Entry) : Type 0 where
  pub is_source : entry.source ≡ source
  pub stands : entry.standing ≡ standing_of source table
  pub let_in : let_in_at limits now entry ≡ let_in_of source limits now table
  pub since : RunsSince source limits now table (entry_at limits now entry).since

known_here : (source : Source) (limits : Limits) (now : ℕ) (table : SourceTable) (place : ℕ) (entry : Entry) → IsTable table
    → IsAt place table (Some entry) → has_source source (Some entry) ≡ true → entry.source ≡ source
    → IsKnown source limits now table entry
known_here source limits now table place entry is at has own = record {
  is_source = own;
  stands = sym (sum_standing (standing_at source) source table place (Some entry) (standing_none source) is at has
      ∙ standing_own source entry own);
  let_in = sym (sum_standing (let_in_by source limits now) source table place (Some entry) (let_in_none source limits now) is at has
      ∙ let_in_own source limits now entry own);
  since = record { own = own_since; first = λ lacks. absurd (never (lacks place (Some entry) at)) };
}
  where
    never : has_source source (Some entry) ≡ false → ⊥
    never e = let both : true ≡ false = sym has ∙ e in absurd (cc)

    own_since : (other : ℕ) (known : Entry) → IsAt other table (Some known) → has_source source (Some known) ≡ true
        → (entry_at limits now entry).since ≡ (entry_at limits now known).since
    own_since other known there its =
        let one = is.once other place source (Some known, there, its) (Some entry, at, has) in
        let both : Some (Some known) ≡ Some (Some entry) = sym there ∙ ap (slice_get table) one ∙ at in
        let same : known ≡ entry = cc in
        ap (λ (it : Entry). (entry_at limits now it).since) (sym same)

known_new : (source : Source) (limits : Limits) (now : ℕ) (table : SourceTable) → LacksSource source table
    → IsKnown source limits now table (new_entry source now)
known_new source limits now table lacks = record {
  is_source = refl;
  stands = sym (sum_lacking (standing_at source) source table (standing_none source) lacks);
  let_in = none (is_time_over limits now (new_entry source now))
      ∙ sym (sum_lacking (let_in_by source limits now) source table (let_in_none source limits now) lacks);
  since = record { own = own_since; first = λ _. begins (is_time_over limits now (new_entry source now)) };
}
  where
    none : (b : Bool) → (let n : ℕ = 0 in (if b then n else n)) ≡ 0
    none true = refl
    none false = refl

    begins : (b : Bool) → (if b then record (new_entry source now) { let_in = 0; since = now } else new_entry source now).since ≡ now
    begins true = refl
    begins false = refl

    own_since : (other : ℕ) (known : Entry) → IsAt other table (Some known) → has_source source (Some known) ≡ true
        → (entry_at limits now (new_entry source now)).since ≡ (entry_at limits now known).since
    own_since other known there its = absurd (let both : true ≡ false = sym its ∙ lacks other (Some known) there in cc)

-- where the source stands, or that it stands nowhere, says what is known of it
pub known_is : (own : Option ℕ) (source : Source) (limits : Limits) (now : ℕ) (table : SourceTable) → IsTable table
    → IfSome own (λ place. StandsAt source place table) → IfNone own (LacksSource source table)
    → IsKnown source limits now table (known_at own source now table)
known_is None source limits now table is there lacks = known_new source limits now table lacks
known_is (Some place) source limits now table is there lacks =
    let has = entry_of source there.0 there.2 in
    let at : IsAt place table (Some has.entry) = there.1 ∙ ap Some has.is in
    let same : known_at (Some place) source now table ≡ has.entry =
    ap (λ (it : Option (Option Entry)). known_or source now (option_and_then (λ (held : Option Entry). held) it)) at in
    subst (IsKnown source limits now table) (sym same)
    (known_here source limits now table place has.entry is at (sym (ap (has_source source) has.is) ∙ there.2) has.is_source)

-- ---- Whether a client is let in

pub record IsLetIn (limits : Limits) (now : ℕ) (before after : Entry) : Type 0 where
  pub few : before.standing < most_standing limits
  pub in_time : let_in_at limits now before < most_let_in limits
  pub is_source : after.source ≡ before.source
  pub stands : after.standing ≡ before.standing + 1
  pub let_in : after.let_in ≡ let_in_at limits now before + 1
  pub since : after.since ≡ (entry_at limits now before).since

above : (a b : ℕ) → nat_le a b ≡ true → a ≤ b
above a b e = grind (arith, nat_tests)

below : (a b : ℕ) → nat_le a b ≡ false → b < a
below a b e = grind (arith, nat_tests)

-- what a client's answer says
pub data SaysOf (limits : Limits) (now : ℕ) (entry : Entry) : Result Entry Refusal → Type 0 where
  full : most_standing limits ≤ entry.standing → SaysOf limits now entry (Err refusal.Full)
  rate : entry.standing < most_standing limits → most_let_in limits ≤ let_in_at limits now entry
      → SaysOf limits now entry (Err refusal.Rate)
  comes : (after : Entry) → IsLetIn limits now entry after → SaysOf limits now entry (Ok after)

at-source : (entry : Entry) (now : ℕ) (b : Bool)
    → (if b then record entry { let_in = 0; since = now } else entry).source ≡ entry.source
at-source entry now true = refl
at-source entry now false = refl

at-standing : (entry : Entry) (now : ℕ) (b : Bool)
    → (if b then record entry { let_in = 0; since = now } else entry).standing ≡ entry.standing
at-standing entry now true = refl
at-standing entry now false = refl

at-let_in : (entry : Entry) (now : ℕ) (b : Bool)
    → (if b then record entry { let_in = 0; since = now } else entry).let_in ≡ (if b then 0 else entry.let_in)
at-let_in entry now true = refl
at-let_in entry now false = refl

says_let_in : (limits : Limits) (now : ℕ) (entry : Entry) → entry.standing < most_standing limits
    → let_in_at limits now entry < most_let_in limits → IsLetIn limits now entry (with_one_more (entry_at limits now entry))
says_let_in limits now entry few in_time = record {
  few = few;
  in_time = in_time;
  is_source = at-source entry now (is_time_over limits now entry);
  stands = ap (λ (n : ℕ). n + 1) (at-standing entry now (is_time_over limits now entry));
  let_in = ap (λ (n : ℕ). n + 1) (at-let_in entry now (is_time_over limits now entry));
  since = refl;
}

pub says_of : (limits : Limits) (now : ℕ) (entry : Entry) → SaysOf limits now entry (admission limits now entry)
says_of limits now entry = by_standing (nat_le (most_standing limits) entry.standing) refl
  where
    after : Entry
    after = with_one_more (entry_at limits now entry)

    by_rate : (b : Bool) → nat_le (most_let_in limits) (let_in_at limits now entry) ≡ b → entry.standing < most_standing limits
        → SaysOf limits now entry (if b then Err refusal.Rate else Ok after)
    by_rate true e few = rate few (above (most_let_in limits) (let_in_at limits now entry) e)
    by_rate false e few =
        comes after (says_let_in limits now entry few (below (most_let_in limits) (let_in_at limits now entry) e))

    by_standing : (b : Bool) → nat_le (most_standing limits) entry.standing ≡ b
        → SaysOf limits now entry (if b then Err refusal.Full
        else if nat_le (most_let_in limits) (let_in_at limits now entry) then Err refusal.Rate
        else Ok after)
    by_standing true e = full (above (most_standing limits) entry.standing e)
    by_standing false e =
        by_rate (nat_le (most_let_in limits) (let_in_at limits now entry)) refl (below (most_standing limits) entry.standing e)

pub is_let_in : (limits : Limits) (now : ℕ) (entry after : Entry) → admission limits now entry ≡ Ok after
    → IsLetIn limits now entry after
is_let_in limits now entry after e = by_case (admission limits now entry) e (says_of limits now entry)
  where
    by_case : (r : Result Entry Refusal) → r ≡ Ok after → SaysOf limits now entry r → IsLetIn limits now entry after
    by_case (Err refusal.Full) e says = absurd (cc)
    by_case (Err refusal.Rate) e says = absurd (cc)
    by_case (Ok other) e (comes same is) = let one : same ≡ after = cc in subst (IsLetIn limits now entry) one is

-- ---- A client that is counted at a place

-- the place is the source's, or may be its
pub record MayTake (own : Option ℕ) (source : Source) (limits : Limits) (now : ℕ) (table : SourceTable) (place : ℕ) : Type 0 where
  pub stands : IfSome own (λ (at : ℕ). (at ≡ place) × StandsAt source at table)
  pub lacks : IfNone own (LacksSource source table)
  pub vacant : IfNone own (IsVacantFor source limits now place table)

-- what the place had
record WasThere (source : Source) (table : SourceTable) (place : ℕ) : Type 0 where
  held : Option Entry
  at : IsAt place table held
  stands : standing_at source held ≡ standing_of source table
  others : (other : Source) → (other ≡ source → ⊥) → standing_at other held ≡ 0

idle_none : (limits : Limits) (now : ℕ) (other : Source) (held : Option Entry) → is_vacant limits now held ≡ true
    → standing_at other held ≡ 0
idle_none limits now other None e = refl
idle_none limits now other (Some entry) e =
    by_case (has_source other (Some entry)) (nothing entry.standing (is_time_over limits now entry) e)
  where
    nothing : (n : ℕ) (b : Bool) → ((n == 0) && b) ≡ true → n ≡ 0
    nothing n b e = is_zero (n == 0) refl e
      where
        is_zero : (c : Bool) → (n == 0) ≡ c → (c && b) ≡ true → n ≡ 0
        is_zero true is e = grind (arith, nat_tests)
        is_zero false is e = absurd (cc)

    by_case : (b : Bool) → entry.standing ≡ 0 → (if b then entry.standing else 0) ≡ 0
    by_case true is = is
    by_case false is = refl

was_own : (source : Source) (table : SourceTable) (place : ℕ) → IsTable table → StandsAt source place table
    → WasThere source table place
was_own source table place is there = record {
  held = there.0;
  at = there.1;
  stands = sym (sum_standing (standing_at source) source table place there.0 (standing_none source) is there.1 there.2);
  others = others;
}
  where
    others : (other : Source) → (other ≡ source → ⊥) → standing_at other there.0 ≡ 0
    others other ne =
        let has = entry_of source there.0 there.2 in
        standing_none other there.0 (ap (has_source other) has.is
        ∙ differ has.entry.source other (λ (e : has.entry.source ≡ other). ne (sym e ∙ has.is_source)))

was_vacant : (source : Source) (limits : Limits) (now : ℕ) (table : SourceTable) (place : ℕ) → LacksSource source table
    → IsVacantFor source limits now place table → WasThere source table place
was_vacant source limits now table place lacks vacant = record {
  held = vacant.1.0;
  at = vacant.1.1;
  stands = standing_none source vacant.1.0 (lacks place vacant.1.0 vacant.1.1)
      ∙ sym (sum_lacking (standing_at source) source table (standing_none source) lacks);
  others = λ other _. idle_none limits now other vacant.1.0 vacant.1.2;
}

was_there : (own : Option ℕ) (source : Source) (limits : Limits) (now : ℕ) (table : SourceTable) (place : ℕ) → IsTable table
    → MayTake own source limits now table place → WasThere source table place
was_there None source limits now table place is may = was_vacant source limits now table place may.lacks may.vacant
was_there (Some at) source limits now table place is may =
    was_own source table place is (subst (λ (it : ℕ). StandsAt source it table) may.stands.0 may.stands.1)

pub never_both : (source : Source) (table : SourceTable) (place : ℕ) → LacksSource source table → StandsAt source place table → ⊥
never_both source table place lacks there =
    let both : true ≡ false = sym there.2 ∙ lacks place there.0 there.1 in absurd (cc)

may_have : (own : Option ℕ) (source : Source) (limits : Limits) (now : ℕ) (table : SourceTable) (place : ℕ) → IsTable table
    → MayTake own source limits now table place → MayHave source limits now table place
may_have None source limits now table place is may = record {
  own = λ other there. absurd (never_both source table other may.lacks there);
  vacant = λ _. may.vacant;
}
may_have (Some at) source limits now table place is may = record {
  own = λ other there. sym may.stands.0 ∙ is.once at other source may.stands.1 there;
  vacant = λ lacks. absurd (never_both source table at lacks may.stands.1);
}

pub counted : (own : Option ℕ) (source : Source) (limits : Limits) (now : ℕ) (table : SourceTable) (place : ℕ)
    (before entry : Entry) → IsTable table → MayTake own source limits now table place
    → IsKnown source limits now table before → IsLetIn limits now before entry
    → IsCountedAt source limits now table (slice_set table place (Some entry)) place
counted own source limits now table place before entry is may known came = record {
  may_have = may_have own source limits now table place is may;
  entry = entry;
  put = refl;
  is_source = source_is;
  stands = stands;
  few = omega (arith, came.few, came.stands);
  is_let_in = came.let_in ∙ ap (λ (n : ℕ). n + 1) known.let_in;
  in_time = omega (arith, came.in_time, came.let_in);
  since = subst (RunsSince source limits now table) (sym came.since) known.since;
  one_more = one_more;
  others = others;
}
  where
    was : WasThere source table place
    was = was_there own source limits now table place is may

    source_is : entry.source ≡ source
    source_is = came.is_source ∙ known.is_source

    stands : entry.standing ≡ standing_of source table + 1
    stands = came.stands ∙ ap (λ (n : ℕ). n + 1) known.stands

    one_more : standing_of source (slice_set table place (Some entry)) ≡ standing_of source table + 1
    one_more =
        let sums = sum_changed (standing_at source) table place was.held (Some entry) was.at in
        let there = standing_own source entry source_is in
        omega (arith, sums, there, was.stands, stands)

    others : OthersStand source table (slice_set table place (Some entry))
    others other ne =
        let sums = sum_changed (standing_at other) table place was.held (Some entry) was.at in
        let there = standing_none other (Some entry) (differ entry.source other (λ (e : entry.source ≡ other). ne (sym e ∙ source_is))) in
        omega (arith, sums, there, was.others other ne)
