-- A seat may hear, at any moment, what all seats did: every step may end so.
use Rattle.std.proofs.Common.{◌≡◌, ◌+◌, ◌∙◌, ⊎_elim, [], ◌∷◌}
use Rattle.lockword.proofs.Words.{ℕ, zero, suc, List, get_or, set, set_here, refl, sym, ap, subst, arith, Option}
use Rattle.lockword.proofs.Words.{some, get_elem?, Event, Stake}
use Rattle.lockword.proofs.Words.{Census, locks, LocalView, stakes_of, taken_by, SawRightly, IsReached, IsBalanced}
use Rattle.atomic_table.proofs.Lists.{at_set}
use Rattle.lockword_core.specs.LockState.{count}
use Rattle.lockword_core.specs.declared.stake.Stake.TheVariants as stake
use Rattle.lockword.specs.LocalView.{takers}
use Rattle.lockword.specs.History.{GoesOn}
use Rattle.lockword.specs.Steps.{hearing}
use Rattle.lockword.proofs.ViewLemmas.{at_there, same_stakes, takers-set}
use Rattle.lockword.proofs.Representation.{seated, present, Fits, fits, recounted, represents}
use Rattle.lockword.proofs.HistorySteps.{same_deeds}
use Rattle.lockword.proofs.HeardSteps.{heard_set}
use Rattle.lockword.proofs.Exchanges.{H, St}

set_twice : (l : List LocalView) (i : ℕ) (a b : LocalView) → set (set l i a) i b ≡ set l i b
set_twice [] i a b = refl
set_twice (x ∷ xs) zero a b = refl
set_twice (x ∷ xs) (suc i) a b = ap (λ (ys : List LocalView). x ∷ ys) (set_twice xs i a b)

module _ (R W : Type 0) where
  rehear : (id : ℕ) (v : LocalView) (h : List Event) (s : St R W) (reached : IsReached s)
      → get_elem? s.views id ≡ some v → GoesOn h reached.history
      → IsReached {R = R} {W = W} record { words = s.words; homes = s.homes; views = set s.views id (hearing h v) }
  rehear id v h s reached at so_far =
      let r = reached.represents in
      let f = fits s r in
      let c : Census = present s r in
      let w : LocalView = hearing h v in
      let views : List LocalView = set s.views id w in
      let n : ℕ = get_or s.words 0 0 in
      let same : stakes_of views ≡ stakes_of s.views = same_stakes s.views id v w at refl in
      let took : takers views + taken_by v ≡ takers s.views + taken_by v = takers-set s.views id v w at in
      let takers_same : takers views ≡ takers s.views = omega arith in
      let next : Fits s.words s.homes views (seated views c) n = record {
        wide = f.wide;
        deep = f.deep;
        state = f.state;
        semaphores = f.semaphores;
        done = f.done;
        stakes = refl;
        balance = subst (λ (ys : List Stake). IsBalanced (record c { stakes = ys }) n) (sym (same ∙ sym f.stakes)) f.balance;
        halves = λ d. recounted d s.homes c (stakes_of views) _ _ (ap (count (locks d)) same) takers_same (f.halves d);
        seen = λ i x at'. ⊎_elim
            (λ here. let saw = f.seen id v at in
            subst (λ (y : LocalView). SawRightly (seated views c) y) here.1
            record { closed = saw.closed; draining = saw.draining; done = saw.done })
            (λ other. let saw = f.seen i x other.1 in
            record { closed = saw.closed; draining = saw.draining; done = saw.done }) (at_set s.views id i w x at');
      } in
      record {
        represents = represents s.words s.homes views (seated views c) n next;
        history = reached.history;
        interleaves = same_deeds reached.history s.views id v w reached.interleaves at refl;
        none_refused = reached.none_refused;
        leads = record {
          stakes = λ seat. ap (λ (ys : List Stake). get_or ys seat stake.Free) same ∙ reached.leads.stakes seat;
          state_word = reached.leads.state_word;
          semaphores = reached.leads.semaphores;
          done_word = reached.leads.done_word;
        };
        heard = heard_set reached.history s.views id w reached.heard so_far;
      }

  -- the same at the end of a step, by which the seat has a new view
  pub rehear_after : (id : ℕ) (v w : LocalView) (h : List Event) (words : List ℕ)
      (homes : List (Option (H R W))) (views : List LocalView) → get_elem? views id ≡ some v
      → (reached : IsReached {R = R} {W = W} record { words = words; homes = homes; views = set views id w })
      → GoesOn h reached.history
      → IsReached {R = R} {W = W} record { words = words; homes = homes; views = set views id (hearing h w) }
  rehear_after id v w h words homes views at reached so_far =
      subst (λ (vs : List LocalView). IsReached {R = R} {W = W}
      record { words = words; homes = homes; views = vs }) (set_twice views id w (hearing h w))
      (rehear id w h record { words = words; homes = homes; views = set views id w } reached
      (set_here views id w (at_there views id v at).0) so_far)
