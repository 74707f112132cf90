-- Exchanges of the state word: each kind of step keeps the rule.
use Rattle.std.proofs.Common.{◌≡◌, ◌+◌, ◌≤◌, ◌∙◌, [], ◌∷◌, ◌++◌}
use Rattle.std.specs.Prelude.{if◌then◌else◌}
use Rattle.lockword.proofs.Words.{ℕ, eqb, true, List, length, length-set, get_or, set, refl, sym, ap, subst, arith, Ok}
use Rattle.lockword.proofs.Words.{Option, none, some, get_elem?, either, step, keeps, stepped, Allows, Dir, Read, Write}
use Rattle.lockword.proofs.Words.{Stake, Kind, After, bit, Event, state_after, Census, empty, locks, lasts, part}
use Rattle.lockword.proofs.Words.{number, ChangesOneStake, lock_stake, allows, op_of, gained, stepped_word, IsBalanced}
use Rattle.lockword.proofs.Words.{change_of, same_pair, LocalView, Half, set_here, stakes_of, taken_by, slot_of}
use Rattle.lockword.proofs.Words.{Guarded, half_of, half_home, Represents, IsReached, IsMade, STATE, saw_after}
use Rattle.lockword.proofs.Words.{saw_drain_after, moved_view, Carries}
use Rattle.atomic_table.specs.Table.{Act, takes, gives, Valid, carried_after, homes_after}
use Rattle.lockword_core.specs.declared.stake.Stake.TheVariants as stake
use Rattle.lockword_core.specs.declared.transition.Kind.TheVariants as kind
use Rattle.lockword_core.specs.declared.transition.After.TheVariants as after
use Rattle.lockword_core.specs.declared.stake.Op.TheVariants as op
use Rattle.lockword_core.specs.LockState.{is_same, count}
use Rattle.lockword_core.specs.Transition.{changed}
use Rattle.lockword_core.proofs.WordRefines.{stepped_keeps}
use Rattle.lockword.specs.declared.shared_rule.Half.TheVariants as half
use Rattle.atomic_table.proofs.Lists.{set_else}
use Rattle.lockword.proofs.WordTests.{possible}
use Rattle.lockword.proofs.DestroySteps.{has_half}
use Rattle.lockword.specs.LocalView.{takers}
use Rattle.lockword.specs.Steps.{HasSlots, MovesHalf, hearing}
use Rattle.lockword.specs.Steps as steps
use Rattle.lockword.proofs.ViewLemmas.{at_there, one_changes, takers-set, taken-le, takers-le}
use Rattle.lockword.proofs.Representation.{seated, present, IsInOnePlace, fits, recounted, represents, on_state}
use Rattle.lockword.proofs.LookSteps.{view_of}
use Rattle.lockword.proofs.HistorySteps.{event, IsMove, own_stake, step_moves, stepped_history, more_deeds}
use Rattle.lockword.proofs.HistorySteps.{none_refused_more, is_made}
use Rattle.lockword.proofs.Exchanges.{H, St, M, swaps}
use Rattle.lockword.proofs.StepParts.{MovesNoHalf, drain_grows, flag_after, flag_grows, holder_may, is_free, is_holder}
use Rattle.lockword.proofs.StepParts.{lock_not_last, lock_part, locks_alone, new_lockless, not_last, one_less, one_more}
use Rattle.lockword.proofs.StepParts.{own_lockless, saw_drain_so, saw_so, unlocked}
use Rattle.lockword.proofs.HeardSteps.{heard_more, stays}
use Rattle.lockword.proofs.Rehear.{rehear_after}

module _ {R W : Type 0} where
  -- a slot once another content is in it, or in the other slot
  slot_after : (e d : Dir) (homes : List (Option (Half R W))) (x : Option (Half R W)) → length homes ≡ 2
      → half_home e (get_elem? (set homes (slot_of d) x) (slot_of e))
      ≡ (if is_same e d then half_home e (some x) else half_home e (get_elem? homes (slot_of e)))
  slot_after Read Read homes x deep = ap (half_home Read) (set_here homes 0 x (omega arith))
  slot_after Write Write homes x deep = ap (half_home Write) (set_here homes 1 x (omega arith))
  slot_after Read Write homes x deep = ap (half_home Read) (set_else homes 1 0 x (omega arith))
  slot_after Write Read homes x deep = ap (half_home Write) (set_else homes 0 1 x (omega arith))

  taken_half : (e d : Dir) (homes : List (Option (Half R W))) (c : Census) (ys : List Stake) (k j : ℕ)
      → length homes ≡ 2 → half_home d (get_elem? homes (slot_of d)) ≡ 1
      → count (locks e) ys ≡ bit (is_same e d) + number (locks e) c → k ≡ j → IsInOnePlace e homes c j
      → IsInOnePlace e (set homes (slot_of d) none) (record c { stakes = ys }) k
  taken_half Read Read homes c ys k j deep home locked took was =
      let now = slot_after Read Read homes none deep in omega arith
  taken_half Write Write homes c ys k j deep home locked took was =
      let now = slot_after Write Write homes none deep in omega arith
  taken_half Read Write homes c ys k j deep home locked took was =
      let now = slot_after Read Write homes none deep in omega arith
  taken_half Write Read homes c ys k j deep home locked took was =
      let now = slot_after Write Read homes none deep in omega arith

  given_half : (e d : Dir) (h : Guarded R W d) (homes : List (Option (Half R W))) (c : Census) (ys : List Stake)
      (k j : ℕ) → length homes ≡ 2
      → number (locks e) c ≡ bit (is_same e d) + count (locks e) ys → k ≡ j → IsInOnePlace e homes c j
      → IsInOnePlace e (set homes (slot_of d) (some (half_of d h))) (record c { stakes = ys }) k
  given_half Read Read h homes c ys k j deep locked took was =
      let now = slot_after Read Read homes (some (half.Read h)) deep in omega arith
  given_half Write Write h homes c ys k j deep locked took was =
      let now = slot_after Write Write homes (some (half.Write h)) deep in omega arith
  given_half Read Write h homes c ys k j deep locked took was =
      let now = slot_after Read Write homes (some (half.Write h)) deep in omega arith
  given_half Write Read h homes c ys k j deep locked took was =
      let now = slot_after Write Read homes (some (half.Read h)) deep in omega arith

pub same_count : (before now others p q : ℕ) → before ≡ p + others → now ≡ q + others → p ≡ 0 → q ≡ 0 → now ≡ before
same_count before now others p q e f g h = omega arith

module _ (R W : Type 0) where
  -- a step that moves no half keeps the rule
  pub no_half_fits : (k : Kind) (a : After) (n m id : ℕ) (me : M R W) (s : St R W) → stepped_word n k ≡ Ok (m, a)
      → allows me.0.stake (op_of k) ≡ true → MovesNoHalf k a
      → Represents s → get_elem? s.views id ≡ some me.0 → get_or s.words 0 0 ≡ n
      → Represents (stepped s 0 m id me.1 (moved_view k a me.0) keeps)
  no_half_fits k a n m id me s is may still r at found =
      let f = fits s r in
      let c : Census = present s r in
      let w : LocalView = moved_view k a me.0 in
      let views : List LocalView = set s.views id w in
      let one = one_changes s.views id me.0 w at in
      let balance : IsBalanced c n = subst (λ (x : ℕ). IsBalanced c x) found f.balance in
      let next : IsBalanced (changed c (stakes_of views) (change_of k)) m =
      stepped_keeps c me.0.stake k a n m (stakes_of views) balance may is one in
      let locked : (d : Dir) → count (locks d) (stakes_of views) ≡ count (locks d) (stakes_of s.views) =
      λ d. same_count _ _ _ _ _ (one.counted_before (locks d)) (one.counted_after (locks d))
      (own_lockless me.0.stake k a d still may) (new_lockless k a d still) in
      let took : takers views + taken_by me.0 ≡ takers s.views + 0 = takers-set s.views id me.0 w at in
      let mine : taken_by me.0 ≤ part lasts me.0.stake = taken-le me.0 in
      let last : part lasts me.0.stake ≡ 0 = not_last me.0.stake k may in
      let takers_same : takers views ≡ takers s.views = omega arith in
      let saw = f.seen id me.0 at in
      represents (set s.words STATE m) s.homes views
      (record c {
        stakes = stakes_of views;
        closed = saw_after k c.closed;
        draining = saw_drain_after k c.draining;
      }) m
      (on_state s.words s.homes s.homes s.views c (saw_after k c.closed) (saw_drain_after k c.draining)
      (get_or s.words STATE 0) m id w f f.deep
      (flag_after k c (stakes_of views) m next)
      (λ d. recounted d s.homes c (stakes_of views) _ _ (locked d) takers_same (f.halves d))
      (flag_grows k c.closed) (drain_grows k c.draining)
      record {
        closed = saw_so k me.0.saw.closed c.closed saw.closed;
        draining = saw_drain_so k me.0.saw.draining c.draining saw.draining;
        done = saw.done;
      })

  -- what becomes of the half that a step moves
  abbrev CarriesHome : Kind → After → List (ℕ × H R W) → List (Option (H R W)) → Act (H R W) → Type 0
  CarriesHome (kind.Lock d) after.Held c homes act =
      (x : H R W) × (carried_after c act ≡ (slot_of d, x) ∷ c) × (get_elem? homes (slot_of d) ≡ some (some x))
  CarriesHome (kind.Unlock d) _ c homes act =
      (x : H R W) → c ≡ (slot_of d, x) ∷ [] → get_elem? (homes_after homes c act) (slot_of d) ≡ some (some x)
  CarriesHome _ _ c homes act = Unit {0}

  set_slot : (d : Dir) (homes : List (Option (H R W))) (x : Option (H R W)) → length homes ≡ 2
      → get_elem? (set homes (slot_of d) x) (slot_of d) ≡ some x
  set_slot Read homes x deep = set_here homes 0 x (omega arith)
  set_slot Write homes x deep = set_here homes 1 x (omega arith)

  put_home : (d : Dir) (homes : List (Option (H R W))) (c : List (ℕ × H R W)) (x : H R W) → length homes ≡ 2
      → c ≡ (slot_of d, x) ∷ [] → get_elem? (homes_after homes c gives) (slot_of d) ≡ some (some x)
  put_home d homes c x deep e =
      subst (λ (l : List (ℕ × H R W)). get_elem? (homes_after homes l gives) (slot_of d) ≡ some (some x)) (sym e)
      (set_slot d homes (some x) deep)

  -- the half was at home before the step, or is after it
  half_moves : (k : Kind) (a : After) (id : ℕ) (me : M R W) (x : LocalView) (s : St R W) (act : Act (H R W)) (m : ℕ)
      → CarriesHome k a me.1 s.homes act → IsReached s → get_elem? s.views id ≡ some me.0
      → IsReached (stepped s 0 m id me.1 x act) → MovesHalf k a me (x, carried_after me.1 act)
  half_moves (kind.Lock d) after.Held id me x s act m home reached at next = (
    home.0,
    home.1,
    record { moment = s; rule = reached; seat = id; view = me.0; own = at; made = refl; home = home.2 },
  )
  half_moves (kind.Unlock d) a id me x s act m home reached at next =
      λ y e. record {
        moment = stepped s 0 m id me.1 x act;
        rule = next;
        seat = id;
        view = x;
        own = set_here s.views id x (at_there s.views id me.0 at).0;
        made = refl;
        home = home y e;
      }
  half_moves (kind.Lock d) after.Queued id me x s act m home reached at next = tt
  half_moves _ _ id me x s act m home reached at next = tt

  abbrev Kept : Kind → After → ℕ → ℕ → M R W → St R W → Type 0
  Kept k a m id me s =
      (act : Act (H R W)) × Valid s.homes me.1 act × Represents (stepped s 0 m id me.1 (moved_view k a me.0) act)
      × Carries k a me.1 (carried_after me.1 act) × CarriesHome k a me.1 s.homes act

  -- a lock that is taken brings its half
  takes_half : (d : Dir) (n m id : ℕ) (me : M R W) (s : St R W) → stepped_word n (kind.Lock d) ≡ Ok (m, after.Held)
      → me.0.stake ≡ stake.Free
      → Represents s → get_elem? s.views id ≡ some me.0 → get_or s.words 0 0 ≡ n
      → Kept (kind.Lock d) after.Held m id me s
  takes_half d n m id me s is free r at found =
      let f = fits s r in
      let c : Census = present s r in
      let w : LocalView = moved_view (kind.Lock d) after.Held me.0 in
      let views : List LocalView = set s.views id w in
      let one = one_changes s.views id me.0 w at in
      let from_free =
      subst (λ (x : Stake). ChangesOneStake (stakes_of s.views) x (stakes_of views) (lock_stake d)) free one in
      let balance : IsBalanced c n = subst (λ (x : ℕ). IsBalanced c x) found f.balance in
      let next : IsBalanced (seated views c) m =
      stepped_keeps c me.0.stake (kind.Lock d) after.Held n m (stakes_of views) balance
      (ap (λ (x : Stake). allows x (op.Lock d)) free) is one in
      let locked : (e : Dir) → count (locks e) (stakes_of views) ≡ bit (is_same e d)
      + count (locks e) (stakes_of s.views) =
      λ e. one_more _ _ _ _ _ (from_free.counted_before (locks e)) (from_free.counted_after (locks e))
      (lock_part e d) in
      let took : takers views + taken_by me.0 ≡ takers s.views + 0 = takers-set s.views id me.0 w at in
      let mine : taken_by me.0 ≤ part lasts me.0.stake = taken-le me.0 in
      let no_last : part lasts me.0.stake ≡ 0 = ap (part lasts) free in
      let takers_same : takers views ≡ takers s.views = omega arith in
      let alone = locks_alone d (seated views c) m (count (locks d) (stakes_of s.views)) (takers views) next (locked d)
      (takers-le views) in
      let was = f.halves d in let lock_free = alone.0 in let none_took = alone.1 in let not_destroyed = alone.2 in
      let home : half_home d (get_elem? s.homes (slot_of d)) ≡ 1 = omega arith in
      let there = has_half R W d (get_elem? s.homes (slot_of d)) home in (
        takes (slot_of d) (half_of d there.0),
        there.1,
        represents (set s.words STATE m) (set s.homes (slot_of d) none) views (seated views c) m
            (on_state s.words s.homes (set s.homes (slot_of d) none) s.views c c.closed c.draining
            (get_or s.words STATE 0) m id w f (length-set s.homes (slot_of d) none ∙ f.deep) next
            (λ e. taken_half e d s.homes c (stakes_of views) _ _ f.deep home (locked e) takers_same (f.halves e))
            (λ e. e) (λ e. e)
            (let saw = f.seen id me.0 at in
            record { closed = saw.closed; draining = saw.draining; done = saw.done })),
        (there.0, refl),
        (half_of d there.0, refl, there.1),
      )

  -- a lock that is given back leaves its half
  gives_half : (d : Dir) (n m id : ℕ) (a : After) (v : LocalView) (h : Guarded R W d) (s : St R W)
      → stepped_word n (kind.Unlock d) ≡ Ok (m, a) → v.stake ≡ lock_stake d
      → Represents s → get_elem? s.views id ≡ some v → get_or s.words 0 0 ≡ n
      → Kept (kind.Unlock d) a m id (v, (slot_of d, half_of d h) ∷ []) s
  gives_half d n m id a v h s is holds r at found =
      let f = fits s r in
      let c : Census = present s r in
      let w : LocalView = moved_view (kind.Unlock d) a v in
      let views : List LocalView = set s.views id w in
      let one = one_changes s.views id v w at in
      let from_lock =
      subst (λ (x : Stake). ChangesOneStake (stakes_of s.views) x (stakes_of views)
      (gained (kind.Unlock d) a).1) holds one in
      let balance : IsBalanced c n = subst (λ (x : ℕ). IsBalanced c x) found f.balance in
      let next : IsBalanced (seated views c) m = stepped_keeps c v.stake (kind.Unlock d) a n m (stakes_of views) balance
      (ap (λ (x : Stake). allows x (op.Unlock d)) holds ∙ holder_may d) is one in
      let locked : (e : Dir) → count (locks e) (stakes_of s.views) ≡ bit (is_same e d)
      + count (locks e) (stakes_of views) =
      λ e. one_less _ _ _ _ _ _ (from_lock.counted_before (locks e)) (from_lock.counted_after (locks e))
      (lock_part e d) (unlocked d a e) in
      let took : takers views + taken_by v ≡ takers s.views + 0 = takers-set s.views id v w at in
      let mine : taken_by v ≤ part lasts v.stake = taken-le v in
      let no_last : part lasts v.stake ≡ 0 = ap (part lasts) holds ∙ lock_not_last d in
      let takers_same : takers views ≡ takers s.views = omega arith in
      let x : Option (H R W) = some (half_of d h) in (
        gives,
        tt,
        represents (set s.words STATE m) (set s.homes (slot_of d) x) views (seated views c) m
            (on_state s.words s.homes (set s.homes (slot_of d) x) s.views c c.closed c.draining
            (get_or s.words STATE 0) m id w f
            (length-set s.homes (slot_of d) x ∙ f.deep) next
            (λ e. given_half e d h s.homes c (stakes_of views) _ _ f.deep (locked e) takers_same (f.halves e))
            (λ e. e) (λ e. e)
            (let saw = f.seen id v at in
            record { closed = saw.closed; draining = saw.draining; done = saw.done })),
        refl,
        λ y e. put_home d s.homes ((slot_of d, half_of d h) ∷ []) y f.deep e,
      )

  -- every step that the stake allows, with the slots that it needs, keeps the rule
  kept : (k : Kind) (a : After) (n m id : ℕ) (me : M R W) (s : St R W) → stepped_word n k ≡ Ok (m, a)
      → allows me.0.stake (op_of k) ≡ true → HasSlots k me.1
      → Represents s → get_elem? s.views id ≡ some me.0 → get_or s.words 0 0 ≡ n → Kept k a m id me s
  kept kind.Incref a n m id me s is may slots r at found =
      (keeps, tt, no_half_fits kind.Incref a n m id me s is may tt r at found, refl, tt)
  kept kind.Decref a n m id me s is may slots r at found =
      (keeps, tt, no_half_fits kind.Decref a n m id me s is may tt r at found, refl, tt)
  kept kind.Close a n m id me s is may slots r at found =
      (keeps, tt, no_half_fits kind.Close a n m id me s is may tt r at found, refl, tt)
  kept kind.Drain a n m id me s is may slots r at found =
      (keeps, tt, no_half_fits kind.Drain a n m id me s is may tt r at found, refl, tt)
  kept (kind.Lock d) after.Queued n m id me s is may slots r at found =
      (keeps, tt, no_half_fits (kind.Lock d) after.Queued n m id me s is may tt r at found, refl, tt)
  kept (kind.Lock d) after.Held n m id me s is may slots r at found =
      takes_half d n m id me s is (is_free me.0.stake d may) r at found
  kept (kind.Lock d) a n m id me s is may slots r at found = absurd (possible n m (kind.Lock d) a is).1.shows
  kept (kind.Unlock d) a n m id me s is may slots r at found =
      subst (λ (l : List (ℕ × H R W)). Kept (kind.Unlock d) a m id (me.0, l) s) (sym slots.1)
      (gives_half d n m id a me.0 slots.0 s is (is_holder me.0.stake d may) r at found)

  abbrev MovesAs : ℕ → ℕ → ℕ → ℕ → M R W → Kind → Type 0
  MovesAs slots id n m me k =
      Allows IsReached slots id me 0 (λ x. either (eqb x n) m x) (steps.moved k (step slots 0 n m none) me)

  abbrev MovedAs : Kind → After → M R W → M R W → Type 0
  MovedAs k b me me' =
      (h : List Event) × (me'.0 ≡ hearing h (moved_view k b me.0)) × Carries k b me.1 me'.1
      × IsMade (op_of k) (gained k b).0 me.0 me'.0 × MovesHalf k b me me'

  pub moves : (slots id n m : ℕ) (me : M R W) (k j : Kind) (a : After) → k ≡ j → stepped_word n k ≡ Ok (m, a)
      → allows me.0.stake (op_of k) ≡ true → HasSlots k me.1
      → Allows IsReached slots id me 0 (λ x. either (eqb x n) m x) (steps.moved j (step slots 0 n m none) me)
  moves slots id n m me k j a same_kind is may has =
      subst (λ (z : Kind). MovesAs slots id n m me z) same_kind
      (swaps R W slots id 0 n m me (λ me'. (b : After) → stepped_word n k ≡ Ok (m, b) → MovedAs k b me me')
      (λ s reached at found.
      let r = reached.represents in
      let t = kept k a n m id me s is may has r at found in
      let w : LocalView = moved_view k a me.0 in
      let h : List Event = reached.history in
      let all : List Event = h ++ event id (op_of k) ∷ [] in
      let x : LocalView = hearing all w in
      let own_may = ap (λ (x : Stake). allows x (op_of k))
      (own_stake (state_after empty h) s.words s.views id me.0 reached.leads at) ∙ may in
      let made : IsMove h id (op_of k) (gained k a).0 (gained k a).1 (change_of k) =
      step_moves h id k a n m (sym found ∙ reached.leads.state_word) own_may is in
      let next : IsReached (stepped s 0 m id me.1 w t.0) = record {
        represents = t.2;
        history = all;
        interleaves = more_deeds h s.views id me.0 w (op_of k) reached.interleaves at refl;
        none_refused = none_refused_more h id (op_of k) _ _ _ made reached.none_refused;
        leads = stepped_history h s.words s.views id me.0 w k a n m reached.leads r.four_words at may is found refl;
        heard = heard_more h s.views id me.0 w (event id (op_of k)) reached.heard at refl;
      } in
      let heard : IsReached (stepped s 0 m id me.1 x t.0) =
      rehear_after R W id me.0 w all (set s.words 0 m) (homes_after s.homes me.1 t.0) s.views at next (stays all) in (
        x,
        t.0,
        t.1,
        heard,
        λ b same. subst (λ (z : After). MovedAs k z me (x, carried_after me.1 t.0))
            (ap (λ (p : ℕ × After). p.1) (same_pair (m, a) (m, b) (sym is ∙ same))) (
              all,
              refl,
              t.3,
              is_made h id me.0 x (op_of k) _ _ _ reached.none_refused (view_of s reached id me.0 at) made refl refl
                  (reached.heard.each id me.0 at) refl,
              half_moves k a id me x s t.0 m t.4 reached at heard,
            ),
      )))
