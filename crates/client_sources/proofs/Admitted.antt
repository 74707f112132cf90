-- What a client comes to, by the place that is for it.
use Rattle.std.proofs.Common.{◌≡◌, ◌∙◌, sym, ap, subst, ℕ, Option, Some, None, Result, Ok, Err, arith}
use Rattle.std.specs.Prelude.{◌↔◌, IfNone, IfSome}
use Rattle.std.proofs.lemmas.Option.{same_Some}
use Rattle.client_sources.specs.Entry.{admission}
use Rattle.client_sources.specs.Sources.{HasNoPlace, IsCountedAt, IsOfGroup, IsOverRate, IsPlaceFor, IsSourceFull}
use Rattle.client_sources.specs.Sources.{IsTable, LacksSource, MayStandAt, NeverMore, SourceTable, StandsAt, known_at, put_at}
use Rattle.client_sources.specs.declared.entry.Entry.{Entry}
use Rattle.client_sources.specs.declared.limits.Limits.{Limits}
use Rattle.client_sources.specs.declared.limits.Refusal.{Refusal}
use Rattle.client_sources.specs.declared.limits.Refusal.TheVariants as refusal
use Rattle.client_sources.specs.declared.source.Source.{Source}
use Rattle.client_sources.proofs.Counted.{IsKnown, IsLetIn, MayTake, SaysOf, comes, counted, full, known_is, never_both, rate, says_of}
use Rattle.client_sources.proofs.Ended.{counted_never_more, same_never_more}
use Rattle.client_sources.proofs.Places.{entry_of}

-- where a source stands, or that it stands nowhere
pub record IsOwn (own : Option ℕ) (source : Source) (table : SourceTable) : Type 0 where
  pub there : IfSome own (λ (place : ℕ). StandsAt source place table)
  pub none : IfNone own (LacksSource source table)

pub known_of : (own : Option ℕ) (source : Source) (limits : Limits) (now : ℕ) (table : SourceTable) (before : Entry) → IsTable table
    → IsOwn own source table → before ≡ known_at own source now table → IsKnown source limits now table before
known_of own source limits now table before is own_is e =
    subst (IsKnown source limits now table) (sym e) (known_is own source limits now table is own_is.there own_is.none)

may_take : (own : Option ℕ) (place : ℕ) (source : Source) (limits : Limits) (now : ℕ) (table : SourceTable)
    → IsOwn own source table → IsPlaceFor source limits now table own (Some place) → MayTake own source limits now table place
may_take None place source limits now table is for = record { stands = tt; lacks = is.none; vacant = for }
may_take (Some at) place source limits now table is for =
    record { stands = (sym (same_Some place at for), is.there); lacks = tt; vacant = tt }

pub counted_if : (own place : Option ℕ) (source : Source) (limits : Limits) (now : ℕ) (old new : SourceTable) (before entry : Entry)
    → IsTable old → IsOwn own source old → IsPlaceFor source limits now old own place → IsKnown source limits now old before
    → IsLetIn limits now before entry → new ≡ put_at place entry old → IfSome place (IsCountedAt source limits now old new)
counted_if own None source limits now old new before entry table is for known came put = tt
counted_if own (Some place) source limits now old new before entry table is for known came put =
    subst (λ (it : SourceTable). IsCountedAt source limits now old it place) (sym put)
    (counted own source limits now old place before entry table (may_take own place source limits now old is for) known came)

pub uncounted_if : (own place : Option ℕ) (source : Source) (limits : Limits) (now : ℕ) (old new : SourceTable) (entry : Entry)
    → IsOwn own source old → IsPlaceFor source limits now old own place → new ≡ put_at place entry old
    → IfNone place (HasNoPlace source limits now old × (new ≡ old))
uncounted_if own (Some place) source limits now old new entry is for put = tt
uncounted_if None None source limits now old new entry is for put = ((is.none, for), put)
uncounted_if (Some at) None source limits now old new entry is for put = absurd (cc)

pub never_more_if : (own place : Option ℕ) (source : Source) (limits : Limits) (now : ℕ) (old new : SourceTable)
    (before entry : Entry) → IsTable old → IsOwn own source old → IsPlaceFor source limits now old own place
    → IsKnown source limits now old before → IsLetIn limits now before entry → new ≡ put_at place entry old
    → NeverMore limits old new
never_more_if own None source limits now old new before entry table is for known came put = same_never_more limits old new put
never_more_if own (Some place) source limits now old new before entry table is for known came put =
    counted_never_more source limits now old new place
    (counted_if own (Some place) source limits now old new before entry table is for known came put)

-- an entry of a source may stand at the place for it
may_stand : (own : Option ℕ) (place : ℕ) (source : Source) (limits : Limits) (now : ℕ) (table : SourceTable) → IsTable table
    → IsOwn own source table → IsPlaceFor source limits now table own (Some place) → MayStandAt (Some place) source table
may_stand None place source limits now table is own for =
    (for.0, λ other there. absurd (never_both source table other own.none there))
may_stand (Some at) place source limits now table is own for =
    let same : place ≡ at = same_Some place at for in
    let has = entry_of source own.there.0 own.there.2 in
    let group : IsOfGroup source at =
    subst (λ (it : Source). IsOfGroup it at) has.is_source (is.grouped at has.entry (own.there.1 ∙ ap Some has.is)) in
    (subst (IsOfGroup source) (sym same) group, λ other there. is.once other at source there own.there ∙ sym same)

pub may_stand_if : (own place : Option ℕ) (source : Source) (limits : Limits) (now : ℕ) (table : SourceTable) (entry : Entry)
    → IsTable table → IsOwn own source table → IsPlaceFor source limits now table own place → entry.source ≡ source
    → MayStandAt place entry.source table
may_stand_if own None source limits now table entry is own_is for same = tt
may_stand_if own (Some place) source limits now table entry is own_is for same =
    subst (λ (it : Source). MayStandAt (Some place) it table) (sym same) (may_stand own place source limits now table is own_is for)

-- ---- Why a client isn't let in

pub err_is : {T : Type 0} (P : Type 0) (r : Result T Refusal) (why wanted : Refusal) → r ≡ Err why → ((why ≡ wanted) ↔ P)
    → (r ≡ Err wanted) ↔ P
err_is {T = T} P r why wanted e h =
    (λ is. h.0 (let both : ◌≡◌ {A = Result T Refusal} (Err why) (Err wanted) = sym e ∙ is in cc), λ it. e ∙ ap Err (h.1 it))

pub ok_is : {T : Type 0} (P : Type 0) (x : T) (wanted : Refusal) → (P → ⊥) → ◌≡◌ {A = Result T Refusal} (Ok x) (Err wanted) ↔ P
ok_is P x wanted never = (λ is. absurd (cc), λ it. absurd (never it))

pub full_if : (source : Source) (limits : Limits) (now : ℕ) (table : SourceTable) (before : Entry) (why : Refusal)
    → IsKnown source limits now table before → admission limits now before ≡ Err why
    → (why ≡ refusal.Full) ↔ IsSourceFull source limits table
full_if source limits now table before why known e = by_case (admission limits now before) e (says_of limits now before)
  where
    by_case : (r : Result Entry Refusal) → r ≡ Err why → SaysOf limits now before r
        → (why ≡ refusal.Full) ↔ IsSourceFull source limits table
    by_case (Err refusal.Full) e (full most) =
        let same : refusal.Full ≡ why = cc in (λ _. omega (arith, most, known.stands), λ _. sym same)
    by_case (Err refusal.Rate) e (rate few most) =
        let same : refusal.Rate ≡ why = cc in
        (λ is. absurd (let no : refusal.Rate ≡ refusal.Full = same ∙ is in cc), λ all. absurd (omega (arith, few, all, known.stands)))
    by_case (Ok other) e (comes same is) = absurd (cc)

pub rate_if : (source : Source) (limits : Limits) (now : ℕ) (table : SourceTable) (before : Entry) (why : Refusal)
    → IsKnown source limits now table before → admission limits now before ≡ Err why
    → (why ≡ refusal.Rate) ↔ IsOverRate source limits now table
rate_if source limits now table before why known e = by_case (admission limits now before) e (says_of limits now before)
  where
    by_case : (r : Result Entry Refusal) → r ≡ Err why → SaysOf limits now before r
        → (why ≡ refusal.Rate) ↔ IsOverRate source limits now table
    by_case (Err refusal.Full) e (full most) =
        let same : refusal.Full ≡ why = cc in
        (λ is. absurd (let no : refusal.Full ≡ refusal.Rate = same ∙ is in cc), λ over. absurd (omega (arith, most, over.0, known.stands)))
    by_case (Err refusal.Rate) e (rate few most) =
        let same : refusal.Rate ≡ why = cc in
        (λ _. (omega (arith, few, known.stands), omega (arith, most, known.let_in)), λ _. sym same)
    by_case (Ok other) e (comes same is) = absurd (cc)

-- one that is let in is kept out by neither limit
pub not_full : (source : Source) (limits : Limits) (now : ℕ) (table : SourceTable) (before entry : Entry)
    → IsKnown source limits now table before → IsLetIn limits now before entry → IsSourceFull source limits table → ⊥
not_full source limits now table before entry known came all = omega (arith, came.few, known.stands, all)

pub not_over : (source : Source) (limits : Limits) (now : ℕ) (table : SourceTable) (before entry : Entry)
    → IsKnown source limits now table before → IsLetIn limits now before entry → IsOverRate source limits now table → ⊥
not_over source limits now table before entry known came over = omega (arith, came.in_time, known.let_in, over.1)
