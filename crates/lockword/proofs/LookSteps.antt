-- Loads: what they tell a seat, and that they keep the rule.
use Rattle.std.proofs.Common.{◌≡◌, ◌+◌, ◌<◌, ◌≤◌, ◌∙◌}
use Rattle.lockword.proofs.Words.{ℕ, Bool, true, List, get_or, get_or-set_same, set, refl, sym, ap, subst}
use Rattle.lockword.proofs.Words.{arith, is_some, dite, Option, none, some, ℕ_discrete, get_elem?, State, step, keeps}
use Rattle.lockword.proofs.Words.{stepped, Allows, set_here, Dir, Read, Write, Stake, bit, LockState, empty}
use Rattle.lockword.proofs.Words.{Census, census, encoded, Counted, references, locks, lasts, part, number, state_after}
use Rattle.lockword.proofs.Words.{Event, count-within, IsBalanced, balance_of, always_consistent, LocalView, Half, STATE, DONE}
use Rattle.lockword.proofs.Words.{stakes_of, taken_by, Represents, IsReached, IsFound, Shows, Told, seen_in}
use Rattle.lockword_core.specs.declared.stake.Stake.TheVariants as stake
use Rattle.lockword_core.specs.Word.{closed_in, drain_in, waiters_in}
use Rattle.lockword_core.specs.LockState.{count}
use Rattle.lockword_core.proofs.BalanceLemmas.{reads_as}
use Rattle.lockword_core.proofs.InvariantPreserved.{bit-le, bit-true}
use Rattle.lockword_core.proofs.FieldSteps.{same_numbers}
use Rattle.lockword_core.proofs.WordTable.{flag_is}
use Rattle.lockword.specs.LocalView.{takers}
use Rattle.lockword.specs.History.{IsView, GoesOn}
use Rattle.lockword.specs.Steps.{IsJustClosed, asked, asked_view, looked, hearing}
use Rattle.lockword.proofs.ViewLemmas.{at_there, same_stakes, counted_at, takers-set}
use Rattle.lockword.proofs.Representation.{seated, present, Fits, fits, recounted, represents, on_state, on_done}
use Rattle.lockword.proofs.Exchanges.{M}
use Rattle.lockword.proofs.HistorySteps.{same_history, same_deeds, own_view}
use Rattle.lockword.proofs.HeardSteps.{heard_set, heard_same, stays}

-- ---- Where one is the last, or destroyed

-- what is so where there is a `Last` or the mark
pub record IsOver (c : Census) (n : ℕ) : Type 0 where
  pub unused : number references c ≡ 0
  pub shut : bit c.closed ≡ 1
  pub one : number lasts c + bit c.destroyed ≡ 1
  pub word : IsJustClosed n

pub is_over : (c : Census) (n : ℕ) → IsBalanced c n → 0 < number lasts c + bit c.destroyed → IsOver c n
is_over c n b over =
    let unused : number references c ≡ 0 =
    dite (ℕ_discrete (number references c) 0) (λ e. e) (λ ne. let none = b.in_use (omega arith) in
    absurd (omega arith)) in
    let fits = b.closed_bit in let drain_fits = b.draining_bit in
    let shut : bit c.closed ≡ 1 =
    dite (ℕ_discrete (bit c.closed) 1) (λ e. e) (λ ne. let none = b.unclosed (omega arith) in
    absurd (omega arith)) in
    let one = b.ended shut unused in
    let no_reader = b.reading.none_pending shut in
    let no_writer = b.writing.none_pending shut in
    record { unused = unused; shut = shut; one = one; word = omega (arith, count-within c.stakes) }

-- ---- What a load of the state tells

shows : (own : Stake) (c : Census) (n : ℕ) → IsBalanced c n → ((what : Counted) → part what own ≤ number what c)
    → Shows own n
shows stake.Ref c n b counted = let r = (reads_as c n b).refs in let some = counted references in omega arith
shows stake.Read c n b counted =
    let r = reads_as c n b in let refs = r.refs in let lock = r.lock Read in let one = b.reading.one_holder in
    let some = counted references in let mine = counted (locks Read) in
    (omega arith, omega arith)
shows stake.Write c n b counted =
    let r = reads_as c n b in let refs = r.refs in let lock = r.lock Write in let one = b.writing.one_holder in
    let some = counted references in let mine = counted (locks Write) in
    (omega arith, omega arith)
shows (stake.Closing x y) c n b counted = let r = (reads_as c n b).refs in let some = counted references in omega arith
shows stake.Last c n b counted = let mine = counted lasts in (is_over c n b (omega arith)).word
shows stake.Free c n b counted = tt
shows (stake.Waits d) c n b counted = tt
shows (stake.Owes d) c n b counted = tt
shows (stake.Drains x y) c n b counted = tt

none_waits : (d : Dir) (c : Census) (n : ℕ) → IsBalanced c n → bit c.closed ≡ 1 → waiters_in d n ≡ 0
none_waits Read c n b shut =
    let r = (reads_as c n b).waiters Read in let none = b.reading.none_pending shut in omega arith
none_waits Write c n b shut =
    let r = (reads_as c n b).waiters Write in let none = b.writing.none_pending shut in omega arith

none_waits_drained : (d : Dir) (c : Census) (n : ℕ) → IsBalanced c n → bit c.draining ≡ 1 → waiters_in d n ≡ 0
none_waits_drained Read c n b drained =
    let r = (reads_as c n b).waiters Read in let none = b.reading.none_drained drained in omega arith
none_waits_drained Write c n b drained =
    let r = (reads_as c n b).waiters Write in let none = b.writing.none_drained drained in omega arith

some_destroyed : (b : Bool) (k : ℕ) → b ≡ true → 0 < k + bit b
some_destroyed b k e = let one : bit b ≡ 1 = ap bit e in omega arith

module _ {R W : Type 0} where
  pub told : (words : List ℕ) (homes : List (Option (Half R W))) (views : List LocalView) (c : Census) (n id : ℕ)
      (v : LocalView) (h : List Event) → Fits words homes views c n → get_elem? views id ≡ some v
      → IsFound R W n (seen_in n (hearing h v))
      → Told R W n (hearing h v)
  told words homes views c n id v h f at found =
      let r = reads_as c n f.balance in
      let flag : c.closed ≡ closed_in n = flag_is c.closed _ r.flag in
      let drain : c.draining ≡ drain_in n = flag_is c.draining _ r.drain in
      let saw = f.seen id v at in
      record {
        found = found;
        is_word = r.is_word;
        saw_closed = λ e. sym flag ∙ saw.closed e;
        saw_draining = λ e. sym drain ∙ saw.draining e;
        saw_done = λ e. (is_over c n f.balance (some_destroyed c.destroyed (number lasts c) (saw.done e))).word;
        shows = shows v.stake c n f.balance
            (λ what. subst (λ (xs : List Stake). part what v.stake ≤ count what xs) (sym f.stakes)
            (counted_at views id v at what));
        none_waits = λ d e. none_waits d c n f.balance (ap bit (flag ∙ e));
        none_waits_drained = λ d e. none_waits_drained d c n f.balance (ap bit (drain ∙ e));
      }

-- the view of a seat at the history that leads to a state
pub view_of : {R W : Type 0} (s : State (Half R W) LocalView) (reached : IsReached s) (id : ℕ) (v : LocalView)
    → get_elem? s.views id ≡ some v
    → IsView reached.history id v
view_of s reached id v at =
    let st : LockState = state_after empty reached.history in
    let f = fits s reached.represents in
    let c : Census = present s reached.represents in
    let good = always_consistent reached.history in
    let now = reads_as c (get_or s.words STATE 0) f.balance in
    let then = reads_as (census st) (encoded (census st)) (balance_of (census st) good.counts) in
    let here = flag_is c.closed _ now.flag in
    let there = flag_is st.closed _ then.flag in
    let drain_here = flag_is c.draining _ now.drain in
    let drain_there = flag_is st.draining _ then.drain in
    let saw = f.seen id v at in
    own_view reached.history s.words s.views id v reached.leads reached.interleaves at
    (λ e. there ∙ ap closed_in (sym reached.leads.state_word) ∙ sym here ∙ saw.closed e)
    (λ e. drain_there ∙ ap drain_in (sym reached.leads.state_word) ∙ sym drain_here ∙ saw.draining e)
    (λ e. bit-true (is_some st.destroyed_by) (sym reached.leads.done_word ∙ f.done ∙ ap bit (saw.done e)))

module _ (R W : Type 0) where
  -- a seat that has seen the state word, which is as it was
  pub seen_fits : (id : ℕ) (me : M R W) (h : List Event) (s : State (Half R W) LocalView) → Represents s
      → get_elem? s.views id ≡ some me.0
      → Represents (stepped s STATE (get_or s.words STATE 0) id me.1
      (seen_in (get_or s.words STATE 0) (hearing h me.0)) keeps)
  seen_fits id me h s r at =
      let n : ℕ = get_or s.words STATE 0 in
      let f = fits s r in
      let c : Census = present s r in
      let w : LocalView = seen_in n (hearing h me.0) in
      let views : List LocalView = set s.views id w in
      let flag : c.closed ≡ closed_in n = flag_is c.closed _ (reads_as c n f.balance).flag in
      let drain : c.draining ≡ drain_in n = flag_is c.draining _ (reads_as c n f.balance).drain in
      let same : stakes_of views ≡ stakes_of s.views = same_stakes s.views id me.0 w at refl in
      let took : takers views + taken_by me.0 ≡ takers s.views + taken_by me.0 = takers-set s.views id me.0 w at in
      let takers_same : takers views ≡ takers s.views = omega arith in
      represents (set s.words STATE n) s.homes views (seated views c) n
      (on_state s.words s.homes s.homes s.views c c.closed c.draining n n id w f f.deep
      (subst (λ (ys : List Stake). IsBalanced (record c { stakes = ys }) n) (sym same) f.balance)
      (λ d. recounted d s.homes c (stakes_of views) _ _ (ap (count (locks d)) same) takers_same (f.halves d))
      (λ e. e) (λ e. e)
      record { closed = λ e. flag ∙ e; draining = λ e. drain ∙ e; done = (f.seen id me.0 at).done })

  -- a seat that has seen the state word did nothing
  pub seen_reached : (id : ℕ) (me : M R W) (h : List Event) (s : State (Half R W) LocalView) (reached : IsReached s)
      → get_elem? s.views id ≡ some me.0 → GoesOn h reached.history
      → IsReached (stepped s STATE (get_or s.words STATE 0) id me.1
      (seen_in (get_or s.words STATE 0) (hearing h me.0)) keeps)
  seen_reached id me h s reached at so_far =
      let w : LocalView = seen_in (get_or s.words STATE 0) (hearing h me.0) in
      record {
        represents = seen_fits id me h s reached.represents at;
        history = reached.history;
        interleaves = same_deeds reached.history s.views id me.0 w reached.interleaves at refl;
        none_refused = reached.none_refused;
        leads = same_history (state_after empty reached.history) s.words s.views STATE id me.0 w reached.leads at refl;
        heard = heard_set reached.history s.views id w reached.heard so_far;
      }

  -- what the state word tells a seat
  pub told_of : (id : ℕ) (me : M R W) (h : List Event) (s : State (Half R W) LocalView) (reached : IsReached s)
      → get_elem? s.views id ≡ some me.0 → GoesOn h reached.history
      → Told R W (get_or s.words STATE 0) (hearing h me.0)
  told_of id me h s reached at so_far =
      let n : ℕ = get_or s.words STATE 0 in
      let r = reached.represents in
      let f = fits s r in
      let wide = f.wide in
      let w : LocalView = seen_in n (hearing h me.0) in
      let found : IsFound R W n w =
      record {
        moment = record { words = set s.words STATE n; homes = s.homes; views = set s.views id w };
        rule = seen_reached id me h s reached at so_far;
        seat = id;
        own =
            set_here s.views id w (at_there s.views id me.0 at).0;
        word = get_or-set_same s.words 0 n 0 (omega arith);
      } in
      told s.words s.homes s.views (present s r) n id me.0 h f at found

  -- a load of the state, at which the seat hears what all did
  pub looks : (slots id : ℕ) (me : M R W)
      → Allows IsReached slots id me STATE (λ n. n) (looked (step slots STATE 0 0 none) me)
  unfolding seen_reached
  looks slots id me s reached deep at small =
      let n : ℕ = get_or s.words STATE 0 in
      let h : List Event = reached.history in
      let w : LocalView = seen_in n (hearing h me.0) in
      let so_far = stays h in
      let next = seen_reached id me h s reached at so_far in
      let there = (at_there s.views id me.0 at).0 in (
        w,
        keeps,
        tt,
        next,
        (
          h,
          told_of id me h s reached at so_far,
          refl,
          record {
            goes_on = reached.heard.each id me.0 at;
            none_refused = reached.none_refused;
            leads = sym reached.leads.state_word;
            seat = id;
            own = view_of (stepped s STATE n id me.1 w keeps) next id w (set_here s.views id w there);
          },
        ),
      )

  -- a load of the done word
  pub asks : (slots id : ℕ) (me : M R W)
      → Allows IsReached slots id me DONE (λ n. n) (asked (step slots DONE 0 0 none) me)
  asks slots id me s reached deep at small =
      let r = reached.represents in
      let n : ℕ = get_or s.words DONE 0 in
      let f = fits s r in
      let c : Census = present s r in
      let w : LocalView = asked_view n me.0 in
      let views : List LocalView = set s.views id w in
      let done_is : n ≡ bit c.destroyed = f.done in
      let small_mark : bit c.destroyed ≤ 1 = bit-le c.destroyed in
      let same : stakes_of views ≡ stakes_of s.views = same_stakes s.views id me.0 w at refl in
      let took : takers views + taken_by me.0 ≡ takers s.views + taken_by me.0 = takers-set s.views id me.0 w at in
      let takers_same : takers views ≡ takers s.views = omega arith in
      let state : ℕ = get_or s.words STATE 0 in
      let saw = f.seen id me.0 at in
      let next = on_done s.words s.homes s.homes s.views c c.destroyed state id w f f.deep
      (subst (λ (ys : List Stake). IsBalanced (record c { stakes = ys }) state) (sym same) f.balance)
      (λ d. recounted d s.homes c (stakes_of views) _ _ (ap (count (locks d)) same) takers_same (f.halves d))
      (λ e. e)
      record {
        closed = saw.closed;
        draining = saw.draining;
        done = λ e. bit-true c.destroyed (sym done_is ∙ same_numbers n 1 e);
      } in (
        w,
        keeps,
        tt,
        record {
          represents = subst (λ (x : ℕ). Represents (stepped s DONE x id me.1 w keeps)) (sym done_is)
              (represents (set s.words DONE (bit c.destroyed)) s.homes views (seated views c) state next);
          history = reached.history;
          interleaves = same_deeds reached.history s.views id me.0 w reached.interleaves at refl;
          none_refused = reached.none_refused;
          leads = same_history (state_after empty reached.history) s.words s.views DONE id me.0 w reached.leads at refl;
          heard = heard_same reached.history s.views id me.0 w reached.heard at refl;
        },
        (omega arith, (λ e. done_is ∙ ap bit (saw.done e)), refl),
      )
