-- The end of a word: the last holder takes the halves and marks that it destroyed.
use Rattle.std.proofs.Common.{◌≡◌, ◌+◌, ◌≤◌, ◌∙◌, [], ◌∷◌, ◌++◌}
use Rattle.lockword.proofs.Words.{ℕ, Bool, true, false, List, length, get_or, set, refl, sym, ap, subst, arith}
use Rattle.lockword.proofs.Words.{length-set, Option, none, some, get_elem?, step, Allows, set_here, Dir, Read, Write}
use Rattle.lockword.proofs.Words.{Stake, Event, bit, Census, empty, locks, lasts, part, number, state_after, ChangesOneStake}
use Rattle.lockword.proofs.Words.{count-within, IsBalanced, LocalView, STATE, DONE, newcomer, stakes_of, taken_by}
use Rattle.lockword.proofs.Words.{Guarded, half_of, half_home, Represents, IsReached}
use Rattle.atomic_table.specs.Table.{takes, gives, chain}
use Rattle.atomic_table.proofs.Lists.{set_else}
use Rattle.lockword_core.specs.declared.stake.Stake.TheVariants as stake
use Rattle.lockword_core.specs.declared.stake.Op.TheVariants as op
use Rattle.lockword_core.specs.declared.stake.Answer.TheVariants as answer
use Rattle.lockword_core.specs.Transition.{destroys}
use Rattle.lockword_core.specs.LockState.{count}
use Rattle.lockword_core.proofs.BalanceLemmas.{destroy_keeps}
use Rattle.lockword.specs.declared.shared_rule.Half.TheVariants as half
use Rattle.lockword.specs.LocalView.{takers}
use Rattle.lockword.specs.Steps.{destroyed_view, emptied, hearing, marked}
use Rattle.lockword.proofs.ViewLemmas.{one_changes, same_stakes, counted_at, takers-set, takers-le}
use Rattle.lockword.proofs.Representation.{both, seated, present, fits, represents, on_done}
use Rattle.lockword.proofs.LookSteps.{is_over, view_of}
use Rattle.lockword.proofs.HistorySteps.{event, same_history, same_deeds, more_deeds, none_refused_more, own_stake}
use Rattle.lockword.proofs.HistorySteps.{is_made}
use Rattle.lockword.proofs.HistoryEnds.{destroy_moves, destroyed_history}
use Rattle.lockword.proofs.Exchanges.{H, M}
use Rattle.lockword.proofs.HeardSteps.{heard_same, heard_more, stays}
use Rattle.lockword.proofs.Rehear.{rehear_after}

module _ (R W : Type 0) where
  -- a half at home
  pub has_half : (d : Dir) (x : Option (Option (H R W))) → half_home d x ≡ 1
      → (h : Guarded R W d) × (x ≡ some (some (half_of d h)))
  has_half Read (some (some (half.Read r))) e = (r, refl)
  has_half Write (some (some (half.Write w))) e = (w, refl)
  has_half d _ e = absurd (omega arith)

  -- what is so where a seat is the last: no lock is held, nobody destroyed, and nobody else took the halves
  record IsAlone (views : List LocalView) (c : Census) (mine : ℕ) : Type 0 where
    no_reader : number (locks Read) c ≡ 0
    no_writer : number (locks Write) c ≡ 0
    not_destroyed : bit c.destroyed ≡ 0
    takers_are : takers views ≡ mine

  alone : (views : List LocalView) (c : Census) (n id : ℕ) (v : LocalView) → c.stakes ≡ stakes_of views → IsBalanced c n
      → get_elem? views id ≡ some v → part lasts v.stake ≡ 1 → taken_by v ≤ 1 → IsAlone views c (taken_by v)
  alone views c n id v stakes b at last small =
      let same : number lasts c ≡ count lasts (stakes_of views) = ap (count lasts) stakes in
      let mine : part lasts v.stake ≤ count lasts (stakes_of views) = counted_at views id v at lasts in
      let over = is_over c n b (omega arith) in
      let w : LocalView = newcomer in
      let one = one_changes views id v w at in
      let before = one.counted_before lasts in
      let now = one.counted_after lasts in
      let took : takers (set views id w) + taken_by v ≡ takers views + 0 = takers-set views id v w at in
      let others : takers (set views id w) ≤ count lasts (stakes_of (set views id w)) = takers-le (set views id w) in
      let held = count-within c.stakes in
      let unused = over.unused in let ends = over.one in
      record { no_reader = omega arith; no_writer = omega arith; not_destroyed = omega arith; takers_are = omega arith }

  last_part : (own : Stake) → own ≡ stake.Last → part lasts own ≡ 1
  last_part own e = ap (part lasts) e

  taken_last : (v : LocalView) (b : Bool) → v.stake ≡ stake.Last → v.took ≡ b → taken_by v ≡ bit b
  taken_last v true e f = rw (e, f) refl
  taken_last v false e f = rw (e, f) refl

  -- the last holder takes both halves
  pub empties : (slots id : ℕ) (me : M R W) → me.0.stake ≡ stake.Last → me.0.took ≡ false
      → Allows IsReached slots id me DONE (λ n. n) (emptied (step slots DONE 0 0 none) me)
  empties slots id me last untaken s reached _ at small =
      let r = reached.represents in
      let n : ℕ = get_or s.words DONE 0 in
      let f = fits s r in
      let c : Census = present s r in
      let state : ℕ = get_or s.words STATE 0 in
      let w : LocalView = record me.0 { took = true } in
      let views : List LocalView = set s.views id w in
      let mine : taken_by me.0 ≡ 0 = taken_last me.0 false last untaken in
      let then : taken_by w ≡ 1 = taken_last w true last refl in
      let so = alone s.views c state id me.0 f.stakes f.balance at (last_part me.0.stake last) (omega arith) in
      let no_reader = so.no_reader in let no_writer = so.no_writer in let not_destroyed = so.not_destroyed in
      let none_took = so.takers_are in
      let same : stakes_of views ≡ stakes_of s.views = same_stakes s.views id me.0 w at refl in
      let took : takers views + taken_by me.0 ≡ takers s.views + taken_by w = takers-set s.views id me.0 w at in
      let readers : count (locks Read) (stakes_of views) ≡ count (locks Read) (stakes_of s.views) =
      ap (count (locks Read)) same in
      let writers : count (locks Write) (stakes_of views) ≡ count (locks Write) (stakes_of s.views) =
      ap (count (locks Write)) same in
      let read_was = f.halves Read in let write_was = f.halves Write in let deep = f.deep in
      let a = has_half Read (get_elem? s.homes 0) (omega arith) in
      let b = has_half Write (get_elem? s.homes 1) (omega arith) in
      let homes : List (Option (H R W)) = set (set s.homes 0 none) 1 none in
      let long : length (set s.homes 0 none) ≡ 2 = length-set s.homes 0 none ∙ f.deep in
      let read_now : half_home Read (get_elem? homes 0) ≡ 0 =
      ap (half_home Read)
      (set_else (set s.homes 0 none) 1 0 none (omega arith) ∙ set_here s.homes 0 none (omega arith)) in
      let write_now : half_home Write (get_elem? homes 1) ≡ 0 =
      ap (half_home Write) (set_here (set s.homes 0 none) 1 none (omega arith)) in
      let done_is : n ≡ bit c.destroyed = f.done in
      let saw = f.seen id me.0 at in
      let next = on_done s.words s.homes homes s.views c c.destroyed state id w f
      (length-set (set s.homes 0 none) 1 none ∙ long)
      (subst (λ (ys : List Stake). IsBalanced (record c { stakes = ys }) state) (sym same) f.balance)
      (both _ (omega arith) (omega arith))
      (λ e. e) record { closed = saw.closed; draining = saw.draining; done = saw.done } in (
        w,
        chain (takes 0 (half.Read a.0)) (takes 1 (half.Write b.0)),
        (a.1, set_else s.homes 0 1 none (omega arith) ∙ b.1),
        record {
          represents = subst (λ (x : ℕ). Represents record { words = set s.words DONE x; homes = homes; views = views })
              (sym done_is) (represents (set s.words DONE (bit c.destroyed)) homes views (seated views c) state next);
          history = reached.history;
          interleaves = same_deeds reached.history s.views id me.0 w reached.interleaves at refl;
          none_refused = reached.none_refused;
          leads = same_history (state_after empty reached.history) s.words s.views DONE id me.0 w reached.leads at refl;
          heard = heard_same reached.history s.views id me.0 w reached.heard at refl;
        },
        (refl, (a.0, b.0, refl)),
      )

  -- the last holder marks that it destroyed
  pub marks : (slots id : ℕ) (me : M R W) → me.0.stake ≡ stake.Last → me.0.took ≡ true → me.0.saw.closed ≡ true
      → me.1 ≡ (1, half.Away) ∷ (0, half.Away) ∷ []
      → Allows IsReached slots id me DONE (λ _. 1) (λ _. marked (step slots DONE 1 0 none) me 1)
  marks slots id me last taken saw holds =
      subst (λ (slots' : List (ℕ × H R W)). Allows IsReached slots id (me.0, slots') DONE (λ _. 1)
      (λ _. marked (step slots DONE 1 0 none) (me.0, slots') 1)) (sym holds)
      (λ s reached _ at small.
      let r = reached.represents in
      let f = fits s r in
      let c : Census = present s r in
      let state : ℕ = get_or s.words STATE 0 in
      let w : LocalView = destroyed_view me.0 in
      let h = reached.history in
      let own = own_stake (state_after empty h) s.words s.views id me.0 reached.leads at ∙ last in
      let made = destroy_moves h id own in
      let views : List LocalView = set s.views id w in
      let mine : taken_by me.0 ≡ 1 = taken_last me.0 true last taken in
      let so = alone s.views c state id me.0 f.stakes f.balance at (last_part me.0.stake last) (omega arith) in
      let no_reader = so.no_reader in let no_writer = so.no_writer in let not_destroyed = so.not_destroyed in
      let i_took = so.takers_are in
      let one = one_changes s.views id me.0 w at in
      let from_last =
      subst (λ (x : Stake). ChangesOneStake (stakes_of s.views) x (stakes_of views) stake.Free) last one in
      let readers_before = from_last.counted_before (locks Read) in let readers_after =
      from_last.counted_after (locks Read) in
      let writers_before = from_last.counted_before (locks Write) in let writers_after =
      from_last.counted_after (locks Write) in
      let took : takers views + taken_by me.0 ≡ takers s.views + 0 = takers-set s.views id me.0 w at in
      let x : Option (H R W) = some half.Away in
      let homes : List (Option (H R W)) = set (set s.homes 1 x) 0 x in
      let deep = f.deep in
      let long : length (set s.homes 1 x) ≡ 2 = length-set s.homes 1 x ∙ f.deep in
      let read_now : half_home Read (get_elem? homes 0) ≡ 0 =
      ap (half_home Read) (set_here (set s.homes 1 x) 0 x (omega arith)) in
      let write_now : half_home Write (get_elem? homes 1) ≡ 0 =
      ap (half_home Write) (set_else (set s.homes 1 x) 0 1 x (omega arith) ∙ set_here s.homes 1 x (omega arith)) in
      let next = on_done s.words s.homes homes s.views c true state id w f (length-set (set s.homes 1 x) 0 x ∙ long)
      (destroy_keeps c (stakes_of views) state f.balance from_last)
      (both _ (omega arith) (omega arith))
      (λ e. refl)
      record { closed = (f.seen id me.0 at).closed; draining = (f.seen id me.0 at).draining; done = λ e. refl } in
      let all : List Event = h ++ event id op.Destroy ∷ [] in
      let y : LocalView = hearing all w in
      let over : IsReached {R = R} {W = W} record { words = set s.words DONE 1; homes = homes; views = views } =
      record {
        represents = represents (set s.words DONE 1) homes views
            (record c { stakes = stakes_of views; destroyed = true }) state next;
        history = all;
        interleaves = more_deeds h s.views id me.0 w op.Destroy reached.interleaves at refl;
        none_refused = none_refused_more h id op.Destroy answer.Done stake.Free destroys made reached.none_refused;
        leads = destroyed_history h s.words s.views id me.0 w reached.leads r.four_words at last refl;
        heard = heard_more h s.views id me.0 w (event id op.Destroy) reached.heard at refl;
      } in (
        y,
        chain gives gives,
        (tt, tt),
        rehear_after R W id me.0 w all (set s.words DONE 1) homes s.views at over (stays all),
        (
          all,
          refl,
          refl,
          is_made h id me.0 y op.Destroy answer.Done stake.Free destroys reached.none_refused
              (view_of s reached id me.0 at) made refl refl (reached.heard.each id me.0 at) refl,
        ),
      ))
