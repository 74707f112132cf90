-- The subtraction of a reference is a load and a step at once, so it keeps the rule as they do.
use Rattle.std.proofs.Common.{◌≡◌, ◌+◌, ◌-◌, ◌<◌, ◌≤◌, ◌%◌, ◌^◌, ◌∙◌, [], ◌∷◌, ◌++◌, Some, None}
use Rattle.std.specs.Prelude.{◌==◌, not, if◌then◌else◌}
use Rattle.std.proofs.lemmas.List.{set-set}
use Rattle.lockword.proofs.Words.{ℕ, true, false, List, length, get_or, set, get_or-set_same, refl, sym, ap, subst}
use Rattle.lockword.proofs.Words.{arith, Ok, nat_tests, Read, Write, none, some, get_elem?, step, keeps, stepped, Allows}
use Rattle.lockword.proofs.Words.{set_here, Stake, Event, Word, CLOSED, After, allows, empty, state_after, stepped_word}
use Rattle.lockword.proofs.Words.{gained, same_pair, LocalView, STATE, Represents, IsReached, IsMade, Shows, Told}
use Rattle.lockword.proofs.Words.{seen_in, moved_view}
use Rattle.lockword_core.specs.declared.stake.Stake.TheVariants as stake
use Rattle.lockword_core.specs.declared.stake.Op.TheVariants as op
use Rattle.lockword_core.specs.declared.word.TheConstants.{READ_LOCK, REFERENCE}
use Rattle.lockword_core.specs.declared.transition.Kind.TheVariants as kind
use Rattle.lockword_core.specs.declared.transition.After.TheVariants as after
use Rattle.lockword_core.specs.declared.transition.Refused.TheVariants as why
use Rattle.lockword_core.specs.Transition.{nothing}
use Rattle.lockword_core.specs.Word.{packed, lock_in, references_in, waiters_in}
use Rattle.lockword_core.specs.FieldStep.{left, packed_result, unless_refused, fields_in}
use Rattle.lockword_core.proofs.WordFields.{packs_back, fields_fit}
use Rattle.lockword.specs.Dropping.{IsLastReference, MakesLast, Decides}
use Rattle.lockword.specs.Marks.{Place}
use Rattle.lockword.specs.Steps.{IsJustClosed, hearing, subtracted}
use Rattle.lockword.proofs.ViewLemmas.{at_there}
use Rattle.lockword.proofs.Representation.{fits}
use Rattle.lockword.proofs.Exchanges.{St, M}
use Rattle.lockword.proofs.LookSteps.{seen_fits, told_of, view_of}
use Rattle.lockword.proofs.HistorySteps.{event, IsMove, own_stake, step_moves, stepped_history, more_deeds}
use Rattle.lockword.proofs.HistorySteps.{none_refused_more, is_made}
use Rattle.lockword.proofs.WordTests.{Shown, possible}
use Rattle.lockword.proofs.StateSteps.{no_half_fits}
use Rattle.lockword.proofs.HeardSteps.{heard_more, stays}
use Rattle.lockword.proofs.Rehear.{rehear_after}

-- whoever gives a reference back is among those that the word counts
counted : (own : Stake) (n : ℕ) → Shows own n → allows own op.Decref ≡ true → 0 < references_in n
counted stake.Ref n shows may = shows
counted (stake.Closing r w) n shows may = shows
counted _ n shows may = absurd (cc)

at_least : (n : ℕ) → 0 < references_in n → REFERENCE ≤ n
at_least n counts = omega arith

-- a word less a reference is no less than 0, so that the subtraction doesn't wrap
pub no_wrap : (n : ℕ) → n < 2 ^ 64 → REFERENCE ≤ n → (n + (2 ^ 64 - REFERENCE)) % 2 ^ 64 ≡ n - REFERENCE
no_wrap n small counts = omega arith

-- a word that counts a reference less
less_one : (n : ℕ) → n < 2 ^ 64 → 0 < references_in n
    → packed (record (fields_in n) { refs = references_in n - 1 }) ≡ n - REFERENCE
less_one n small counts = let same : packed (fields_in n) ≡ n = packs_back n small in omega arith

-- the step on a word that counts a reference
pub dropped : (n : ℕ) → n < 2 ^ 64 → 0 < references_in n
    → stepped_word n kind.Decref ≡ Ok (n - REFERENCE, left (fields_in n))
dropped n small counts =
    let not_zero : (references_in n == 0) ≡ false = grind (arith, nat_tests) in
    let f : Word = fields_in n in
    ap (λ b. packed_result
    (unless_refused (if b then Some why.Misuse else None) (record f { refs = f.refs - 1 }, left f))) not_zero
    ∙ ap (λ (m : ℕ). Ok (m, left f)) (less_one n small counts)

module _ (R W : Type 0) where
  -- the rule after a load and a step, and what the word then shows to the seat
  steps_on : (n m id : ℕ) (a : After) (me : M R W) (s : St R W) → stepped_word n kind.Decref ≡ Ok (m, a)
      → allows me.0.stake op.Decref ≡ true → Represents s → get_elem? s.views id ≡ some me.0
      → get_or s.words STATE 0 ≡ n
      → Represents (stepped s STATE m id me.1 (moved_view kind.Decref a (seen_in n me.0)) keeps)
  steps_on n m id a me s is may r at found =
      let v : LocalView = seen_in n me.0 in
      let w : LocalView = moved_view kind.Decref a v in
      let there = at_there s.views id me.0 at in
      let wide : length s.words ≡ 4 = (fits s r).wide in
      let saw : Represents (stepped s STATE n id me.1 v keeps) =
      subst (λ (k : ℕ). Represents (stepped s STATE k id me.1 (seen_in k me.0) keeps)) found
      (seen_fits R W id me me.0.heard s r at) in
      let next = no_half_fits R W kind.Decref a n m id (v, me.1) (stepped s STATE n id me.1 v keeps) is may tt saw
      (set_here s.views id v there.0) (get_or-set_same s.words 0 n 0 (omega arith)) in
      subst (λ (z : List ℕ × List LocalView). Represents record { words = z.0; homes = s.homes; views = z.1 })
      (λ i. (set-set s.words 0 n m i, set-set s.views id v w i)) next

  -- a subtraction of a reference
  pub subtracts : (slots id : ℕ) (me : M R W) → allows me.0.stake op.Decref ≡ true
      → Allows IsReached slots id me STATE (λ n. (n + (2 ^ 64 - REFERENCE)) % 2 ^ 64)
      (subtracted (step slots STATE REFERENCE 0 none) me)
  subtracts slots id me may s reached deep at small =
      let r = reached.represents in
      let n : ℕ = get_or s.words STATE 0 in
      let told : Told R W n me.0 = told_of R W id me me.0.heard s reached at (reached.heard.each id me.0 at) in
      let counts = counted me.0.stake n told.shows may in
      let a : After = left (fields_in n) in
      let is = dropped n told.is_word counts in
      let w : LocalView = moved_view kind.Decref a (seen_in n me.0) in
      let m : ℕ = n - REFERENCE in
      let h : List Event = reached.history in
      let own_may = ap (λ (x : Stake). allows x op.Decref)
      (own_stake (state_after empty h) s.words s.views id me.0 reached.leads at) ∙ may in
      let made : IsMove h id op.Decref (gained kind.Decref a).0 (gained kind.Decref a).1 nothing =
      step_moves h id kind.Decref a n m reached.leads.state_word own_may is in
      let next : IsReached (stepped s STATE m id me.1 w keeps) =
      record {
        represents = steps_on n m id a me s is may r at refl;
        history = h ++ event id op.Decref ∷ [];
        interleaves = more_deeds h s.views id me.0 w op.Decref reached.interleaves at refl;
        none_refused = none_refused_more h id op.Decref _ _ _ made reached.none_refused;
        leads =
            stepped_history h s.words s.views id me.0 w kind.Decref a n m reached.leads r.four_words at may is
            refl refl;
        heard = heard_more h s.views id me.0 w (event id op.Decref) reached.heard at refl;
      } in
      let there = at_there s.views id me.0 at in
      let wide : length s.words ≡ 4 = (fits s r).wide in
      let shown : Told R W (get_or (set s.words 0 m) 0 0) w =
      told_of R W id (w, me.1) w.heard (stepped s STATE m id me.1 w keeps) next (set_here s.views id w there.0)
      (next.heard.each id w (set_here s.views id w there.0)) in
      let same : get_or (set s.words 0 m) 0 0 ≡ m = get_or-set_same s.words 0 m 0 (omega arith) in
      let all : List Event = h ++ event id op.Decref ∷ [] in
      let x : LocalView = hearing all w in (
        x,
        keeps,
        tt,
        subst (λ (k : ℕ). IsReached (stepped s STATE k id me.1 x keeps))
            (sym (no_wrap n told.is_word (at_least n counts)))
            (rehear_after R W id me.0 w all (set s.words 0 m) s.homes s.views at next (stays all)),
        (
          told,
          (
            a,
            all,
            is,
            refl,
            subst (λ (k : ℕ). Shows w.stake k) same shown.shows,
            is_made h id me.0 x op.Decref _ _ _ reached.none_refused (view_of s reached id me.0 at) made refl refl
                (reached.heard.each id me.0 at) refl,
          ),
          refl,
        ),
      )

-- ---- What the seat has, and has seen

-- the closed flag and one reference, perhaps with the drain flag, on the packed word
pub record IsFlagAndOne (n : ℕ) : Type 0 where
  pub flag : n % READ_LOCK ≡ CLOSED
  pub rlock : lock_in Read n ≡ 0
  pub wlock : lock_in Write n ≡ 0
  pub refs : references_in n ≡ 1
  pub rwait : waiters_in Read n ≡ 0
  pub wwait : waiters_in Write n ≡ 0

flag_and_one : (n : ℕ) → 0 < references_in n → IsJustClosed (n - REFERENCE) → IsFlagAndOne n
flag_and_one n counts rest = omega arith

is_zero : (x : ℕ) → x ≡ 0 → not (x == 0) ≡ false
is_zero x e = rw e refl

-- its fields
last_reference : (n : ℕ) → IsFlagAndOne n → IsLastReference (fields_in n)
last_reference n is = (
  ap (λ (x : ℕ). x == CLOSED) is.flag,
  is_zero _ is.rlock,
  is_zero _ is.wlock,
  is.refs,
  is.rwait,
  is.wwait,
)

module _ {R W : Type 0} where
  -- what a seat has and has seen once it made a subtraction
  abbrev pub Subtracted : ℕ → After → Place R W → Place R W → Type 0
  Subtracted n a p q =
      (h : List Event) × (stepped_word n kind.Decref ≡ Ok (n - REFERENCE, a))
      × (q.me.0 ≡ hearing h (moved_view kind.Decref a (seen_in n p.me.0)))
      × Shows q.me.0.stake (n - REFERENCE) × IsMade op.Decref (gained kind.Decref a).0 p.me.0 q.me.0

  -- what the step on the word that was found answers is what the subtraction came to
  pub as_answered : (a b : After) (n m : ℕ) (p q : Place R W) → Subtracted n a p q
      → stepped_word n kind.Decref ≡ Ok (m, b)
      → Subtracted n b p q
  as_answered a b n m p q did is =
      subst (λ (x : After). Subtracted n x p q)
      (ap (λ (y : ℕ × After). y.1) (same_pair (n - REFERENCE, a) (m, b) (sym did.1 ∙ is))) did

  pub decides : (a : After) (n : ℕ) (p q : Place R W) → allows p.me.0.stake op.Decref ≡ true → Told R W n p.me.0
      → Subtracted n a p q → q.table_id ≡ p.table_id → Decides p q a
  decides a n p q may told (h, is, view, shows, made_it) same = (
    fields_in n,
    record {
      is_word = fields_fit n;
      counted = counts;
      same_word = same;
      sees_flag = ap (λ v. v.saw.closed) view;
      flag_stays = told.saw_closed;
      sees_drain = ap (λ v. v.saw.draining) view;
      drain_stays = told.saw_draining;
      same_done = ap (λ v. v.saw.done) view;
    },
    makes a (possible n (n - REFERENCE) kind.Decref a is) (subst (λ v. Shows v.stake (n - REFERENCE)) view shows),
  )
    where
      counts : 0 < references_in n
      counts = counted p.me.0.stake n told.shows may

      makes : (a : After) → Shown n kind.Decref a → Shows (gained kind.Decref a).1 (n - REFERENCE)
          → MakesLast (fields_in n) a
      makes after.Last made shut = last_reference n (flag_and_one n counts shut)
      makes after.Kept (g, made) shows = λ last. made.shows.1 last.0 last.3
      makes _ (g, made) shows = absurd made.shows.1
