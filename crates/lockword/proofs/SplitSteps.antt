-- A split keeps the rule: the new seat has no stake, and counts nothing.
use Rattle.std.proofs.Common.{◌≡◌, ◌+◌, ◌∙◌, ⊎_elim, [], ◌∷◌, ◌++◌}
use Rattle.lockword.proofs.Words.{ℕ, List, get_or, refl, sym, ap, subst, arith, set_again, Census, empty}
use Rattle.lockword.proofs.Words.{Dir, Read, Write, Stake, Counted, references, locks, lasts, number, IsBalanced, state_after, LocalView, Half, stakes_of, SawRightly}
use Rattle.lockword.proofs.Words.{IsReached}
use Rattle.atomic_table.specs.Table.{Splits}
use Rattle.atomic_table.proofs.Lists.{at_snoc}
use Rattle.lockword_core.specs.declared.stake.Stake.TheVariants as stake
use Rattle.lockword_core.specs.LockState.{closers, drainers, queued, owed, count}
use Rattle.lockword_core.proofs.BalanceLemmas.{IsBalancedWay}
use Rattle.lockword_core.proofs.CountLemmas.{count-push}
use Rattle.lockword.specs.LocalView.{takers, without_stake}
use Rattle.lockword.proofs.ViewLemmas.{stakes_push, takers-push}
use Rattle.lockword.proofs.Representation.{seated, present, Fits, fits, recounted, represents}
use Rattle.lockword.proofs.HistoryEnds.{split_history, split_deeds}
use Rattle.lockword.proofs.HeardSteps.{split_heard}

-- stakes that count as much keep the balance
same_way : (d : Dir) (c : Census) (ys : List Stake) → ((what : Counted) → count what ys ≡ number what c)
    → IsBalancedWay d c → IsBalancedWay d (record c { stakes = ys })
same_way d c ys same b =
    let holders = same (locks d) in
    let waiters = same (queued d) in
    let owing = same (owed d) in
    let one = b.one_holder in
    let have = b.signals_have_waiters in
    let fit = b.waiters_fit in
    record {
      one_holder = omega arith;
      signals_have_waiters = omega arith;
      waiters_fit = omega arith;
      signals_fit = b.signals_fit;
      none_pending = λ e. let none = b.none_pending e in omega arith;
      none_drained = λ e. let none = b.none_drained e in omega arith;
    }

same_balance : (c : Census) (ys : List Stake) (n : ℕ) → ((what : Counted) → count what ys ≡ number what c)
    → IsBalanced c n → IsBalanced (record c { stakes = ys }) n
same_balance c ys n same b =
    let refs = same references in
    let ends = same lasts in
    let few = b.references_fit in
    let closing = same closers in
    let one_closer = b.one_closer in
    let draining = same drainers in
    let one_drainer = b.one_drainer in
    let readers = same (locks Read) in
    let writers = same (locks Write) in
    let read_waiters = same (queued Read) in
    let write_waiters = same (queued Write) in
    let read_owed = same (owed Read) in
    let write_owed = same (owed Write) in
    let word = b.word_is in
    record {
      closed_bit = b.closed_bit;
      destroyed_bit = b.destroyed_bit;
      draining_bit = b.draining_bit;
      reading = same_way Read c ys same b.reading;
      writing = same_way Write c ys same b.writing;
      references_fit = omega arith;
      one_closer = omega arith;
      one_drainer = omega arith;
      ended = λ e none. let over = b.ended e (omega arith) in omega arith;
      unclosed = λ e. let none = b.unclosed e in omega arith;
      in_use = λ some. let none = b.in_use (omega arith) in omega arith;
      word_is = omega arith;
    }

module _ (R W : Type 0) where
  pub splits : (id : ℕ) (v : LocalView) → Splits {S = Half R W} IsReached id v v (without_stake v)
  splits id v s reached at =
      let r = reached.represents in
      let f = fits s r in
      let c : Census = present s r in
      let w : LocalView = without_stake v in
      let views : List LocalView = s.views ++ w ∷ [] in
      let n : ℕ = get_or s.words 0 0 in
      let pushed : stakes_of views ≡ stakes_of s.views ++ stake.Free ∷ [] = stakes_push s.views w in
      let same : (what : Counted) → count what (stakes_of views) ≡ count what (stakes_of s.views) =
      λ what. ap (count what) pushed ∙ count-push what (stakes_of s.views) in
      let took : takers views ≡ takers s.views + 0 = takers-push s.views w in
      let took_none : takers views ≡ takers s.views = omega arith in
      let next : Fits s.words s.homes views (seated views c) n = record {
        wide = f.wide;
        deep = f.deep;
        state = f.state;
        semaphores = f.semaphores;
        done = f.done;
        stakes = refl;
        balance = same_balance c (stakes_of views) n same f.balance;
        halves = λ d. recounted d s.homes c (stakes_of views) _ _ (same (locks d)) took_none (f.halves d);
        seen = λ i x at'. ⊎_elim (λ here. let saw = f.seen i x here in
            record { closed = saw.closed; draining = saw.draining; done = saw.done })
            (λ new. let saw = f.seen id v at in
            subst (λ (y : LocalView). SawRightly (seated views c) y) new record {
              closed = saw.closed;
              draining = saw.draining;
              done = saw.done;
            }) (at_snoc s.views w x i at');
      } in
      subst (λ (vs : List LocalView). IsReached record { words = s.words; homes = s.homes; views = vs ++ w ∷ [] })
      (sym (set_again s.views id v at))
      record {
        represents = represents s.words s.homes views (seated views c) n next;
        history = reached.history;
        interleaves = split_deeds reached.history s.views w reached.interleaves refl;
        none_refused = reached.none_refused;
        leads = split_history (state_after empty reached.history) s.words s.views w reached.leads refl;
        heard = split_heard reached.history s.views w reached.heard (reached.heard.each id v at);
      }
