-- The headline, from the rule.
use Rattle.std.proofs.Common.{◌≡◌, ◌≤◌, ◌∙◌, [], ◌∷◌}
use Rattle.std.specs.Prelude.{◌==◌, ◌&&◌, sum_by, if◌then◌else◌}
use Rattle.std.proofs.lemmas.List.Sums.{sum_by-cons}
use Rattle.lockword.proofs.Words.{ℕ, List, refl, sym, ap, arith, get_or, Dir, Read, Write, Stake}
use Rattle.lockword.proofs.Words.{Census, Counted, LockState, empty, census, references, locks, lasts, number, part}
use Rattle.lockword.proofs.Words.{state_after, always_consistent, balance_of, LocalView, stakes_of, taken_by}
use Rattle.lockword.proofs.Words.{IsReached, Word, is_some}
use Rattle.lockword_core.specs.declared.stake.Stake.TheVariants as stake
use Rattle.lockword_core.specs.LockState.{count, queued as queueing, owed as owing}
use Rattle.lockword_core.proofs.CountLemmas.{count-cons, count-nil}
use Rattle.lockword_core.proofs.BalanceLemmas.{reads_as}
use Rattle.lockword_core.proofs.InvariantPreserved.{bit-le}
use Rattle.lockword_core.proofs.WordFields.{reads_fields}
use Rattle.lockword_core.proofs.NameLemmas.{counts_by_seats}
use Rattle.lockword_core.proofs.OperationLemmas.{adds_up}
use Rattle.lockword_core.proofs.StateLemmas.{empty_consistent}
use Rattle.lockword.specs.LocalView.{takers}
use Rattle.lockword.specs.Moment.{Moment, IsShown}
use Rattle.lockword.specs.Headline.{Headline, reference, lock, queued, owed, duty, summed}
use Rattle.lockword.specs.Laws.{Stood}
use Rattle.lockword.proofs.Representation.{both, present, fits}
use Rattle.lockword.proofs.DeedLists.{deeds_from, same_deeds_by, deeds_add, last_is_last, destroyer_was_last}

-- ---- The counts of stakes are those of the rule

same_reference : (x : Stake) → reference x ≡ part references x
same_reference stake.Free = refl
same_reference stake.Ref = refl
same_reference stake.Read = refl
same_reference stake.Write = refl
same_reference (stake.Waits d) = refl
same_reference (stake.Owes d) = refl
same_reference (stake.Closing r w) = refl
same_reference (stake.Drains r w) = refl
same_reference stake.Last = refl

same_lock : (d : Dir) (x : Stake) → lock d x ≡ part (locks d) x
same_lock Read stake.Free = refl
same_lock Read stake.Ref = refl
same_lock Read stake.Read = refl
same_lock Read stake.Write = refl
same_lock Read (stake.Waits e) = refl
same_lock Read (stake.Owes e) = refl
same_lock Read (stake.Closing r w) = refl
same_lock Read (stake.Drains r w) = refl
same_lock Read stake.Last = refl
same_lock Write stake.Free = refl
same_lock Write stake.Ref = refl
same_lock Write stake.Read = refl
same_lock Write stake.Write = refl
same_lock Write (stake.Waits e) = refl
same_lock Write (stake.Owes e) = refl
same_lock Write (stake.Closing r w) = refl
same_lock Write (stake.Drains r w) = refl
same_lock Write stake.Last = refl

same_queued : (d : Dir) (x : Stake) → queued d x ≡ part (queueing d) x
same_queued Read stake.Free = refl
same_queued Read stake.Ref = refl
same_queued Read stake.Read = refl
same_queued Read stake.Write = refl
same_queued Read (stake.Waits Read) = refl
same_queued Read (stake.Waits Write) = refl
same_queued Read (stake.Owes e) = refl
same_queued Read (stake.Closing r w) = refl
same_queued Read (stake.Drains r w) = refl
same_queued Read stake.Last = refl
same_queued Write stake.Free = refl
same_queued Write stake.Ref = refl
same_queued Write stake.Read = refl
same_queued Write stake.Write = refl
same_queued Write (stake.Waits Read) = refl
same_queued Write (stake.Waits Write) = refl
same_queued Write (stake.Owes e) = refl
same_queued Write (stake.Closing r w) = refl
same_queued Write (stake.Drains r w) = refl
same_queued Write stake.Last = refl

same_owed : (d : Dir) (x : Stake) → owed d x ≡ part (owing d) x
same_owed Read stake.Free = refl
same_owed Read stake.Ref = refl
same_owed Read stake.Read = refl
same_owed Read stake.Write = refl
same_owed Read (stake.Waits e) = refl
same_owed Read (stake.Owes Read) = refl
same_owed Read (stake.Owes Write) = refl
same_owed Read (stake.Closing r w) = refl
same_owed Read (stake.Drains r w) = refl
same_owed Read stake.Last = refl
same_owed Write stake.Free = refl
same_owed Write stake.Ref = refl
same_owed Write stake.Read = refl
same_owed Write stake.Write = refl
same_owed Write (stake.Waits e) = refl
same_owed Write (stake.Owes Read) = refl
same_owed Write (stake.Owes Write) = refl
same_owed Write (stake.Closing r w) = refl
same_owed Write (stake.Drains r w) = refl
same_owed Write stake.Last = refl

same_duty : (x : Stake) → duty x ≡ part lasts x
same_duty stake.Free = refl
same_duty stake.Ref = refl
same_duty stake.Read = refl
same_duty stake.Write = refl
same_duty (stake.Waits d) = refl
same_duty (stake.Owes d) = refl
same_duty (stake.Closing r w) = refl
same_duty (stake.Drains r w) = refl
same_duty stake.Last = refl

sum_is : (f : Stake → ℕ) (what : Counted) → ((x : Stake) → f x ≡ part what x) → (views : List LocalView)
    → sum_by (λ (v : LocalView). f v.stake) views ≡ count what (stakes_of views)
sum_is f what same [] = sym (count-nil what)
sum_is f what same (v ∷ views) =
    let rest = sum_is f what same views in
    let a = sum_by-cons (λ (x : LocalView). f x.stake) v views in
    let b = count-cons what v.stake (stakes_of views) in
    let here = same v.stake in
    omega arith

taken_is : (views : List LocalView)
    → sum_by (λ (v : LocalView). if v.took then duty v.stake else 0) views ≡ takers views
unfolding takers
taken_is [] = refl
taken_is (v ∷ views) =
    let rest = taken_is views in
    let a = sum_by-cons (λ (x : LocalView). if x.took then duty x.stake else 0) v views in
    let b = sum_by-cons taken_by v views in
    let here : (if v.took then duty v.stake else 0) ≡ taken_by v =
    ap (λ (n : ℕ). if v.took then n else 0) (same_duty v.stake) in
    omega arith

module _ {R W : Type 0} where
  pub the_headline : (s : Moment R W) → IsReached s → Headline s
  the_headline s reached =
      let r = reached.represents in
      let f = fits s r in
      let c : Census = present s r in
      let n : ℕ = get_or s.words 0 0 in
      let have = reads_as c n f.balance in
      let st : LockState = state_after empty reached.history in
      let good = always_consistent reached.history in
      let leads = reached.leads in
      let word_is = leads.state_word in
      let past = reads_as (census st) _ (balance_of (census st) good.counts) in
      let sums = adds_up reached.history reached.none_refused in
      let add = deeds_add empty reached.history empty_consistent reached.none_refused in
      let locked : (d : Dir) → summed (lock d) s ≡ count (locks d) (stakes_of s.views) =
      λ d. sum_is (lock d) (locks d) (same_lock d) s.views in
      let refs = sum_is reference references same_reference s.views in
      let waiting : (d : Dir) → summed (queued d) s ≡ count (queueing d) (stakes_of s.views) =
      λ d. sum_is (queued d) (queueing d) (same_queued d) s.views in
      let bound : (d : Dir) → summed (owed d) s ≡ count (owing d) (stakes_of s.views) =
      λ d. sum_is (owed d) (owing d) (same_owed d) s.views in
      record {
        deeds = deeds_from empty reached.history;
        own = λ seat. same_deeds_by seat empty reached.history ∙ sym (reached.interleaves.deeds seat);
        unrefused = add.fits;
        bits = have.is_word;
        closed = let a = past.flag in let b = sums.closed in let d = add.closes in omega arith;
        draining = let a = past.drain in let b = sums.drained in let d = add.drains in omega arith;
        destroyed = leads.done_word ∙ sym (add.destroys ∙ sums.destroyed);
        one_destroy = let a = bit-le (is_some st.destroyed_by) in let b = sums.destroyed in let d = add.destroys in
            omega arith;
        read_lock = have.lock Read ∙ sym (locked Read);
        write_lock = have.lock Write ∙ sym (locked Write);
        references = have.refs ∙ sym refs;
        readers = let a = have.waiters Read in let b = waiting Read in let d = bound Read in
            let ready = f.semaphores Read in let fewer = f.balance.reading.signals_have_waiters in omega arith;
        writers = let a = have.waiters Write in let b = waiting Write in let d = bound Write in
            let ready = f.semaphores Write in let fewer = f.balance.writing.signals_have_waiters in omega arith;
        one_lock = both (λ d. summed (lock d) s ≤ 1)
            (let a = locked Read in let one = f.balance.reading.one_holder in omega arith)
            (let a = locked Write in let one = f.balance.writing.one_holder in omega arith);
        one_place = λ d. let a = locked d in let here = f.halves d in let done = f.done in
            let taken = taken_is s.views in omega arith;
        in_use = let a = add.refs in
            let same = counts_by_seats st (stakes_of s.views) good leads.stakes references in
            let none = count-nil references in omega arith;
        one_last = let a = add.duties in let none = count-nil lasts in let one = good.counts.one_last in
            let destroyed = add.destroys in let done = sums.destroyed in let most = bit-le
            (st.closed && (number references (census st) == 0)) in omega arith;
        duties = let a = add.duties in let none = count-nil lasts in
            let now = sum_is duty lasts same_duty s.views in
            let same = counts_by_seats st (stakes_of s.views) good leads.stakes lasts in omega arith;
        last = λ early late d whole is. last_is_last reached.history early late d reached.none_refused whole is;
        destroy = λ early late d whole is.
            destroyer_was_last reached.history early late d reached.none_refused whole is;
      }

  pub stood : (fields : Word) (v : LocalView) → IsShown R W fields v → Stood R W fields v
  stood fields v shown =
      let read = reads_fields fields (get_or shown.moment.words 0 0) shown.read.is_word shown.read.same in
      record {
        moment = shown.moment;
        headline = the_headline shown.moment shown.read.rule;
        seat = shown.seat;
        own = shown.own;
        fields = record {
          closed = sym read.flag;
          rlock = sym read.rlock;
          wlock = sym read.wlock;
          refs = sym read.refs;
          rwait = sym read.rwait;
          wwait = sym read.wwait;
          drain = sym read.drain;
        };
      }
