-- What a seat did that waited for a lock.
use Rattle.std.proofs.Common.{◌≡◌, ◌+◌, ◌∙◌, [], ◌∷◌, ◌++◌, ℕ, zero, suc, Bool, false, List, sym, ap, arith}
use Rattle.std.proofs.Common.{append-nil, append_assoc}
use Rattle.std.specs.Prelude.{count_by}
use Rattle.std.specs.List.{repeat}
use Rattle.base_types.specs.declared.direction.Dir.{Dir}
use Rattle.lockword_core.specs.declared.stake.Op.{Op}
use Rattle.lockword_core.specs.declared.stake.Op.TheVariants as op
use Rattle.lockword_core.specs.declared.stake.Answer.{Answer}
use Rattle.lockword_core.specs.declared.stake.Answer.TheVariants as answer
use Rattle.lockword_core.specs.OperationCounts.{is_close, is_destroy, is_drain}
use Rattle.lockword_core.specs.Word.{bit}
use Rattle.lockword_core.proofs.OperationLemmas.{count_by-push}
use Rattle.lockword.specs.Marks.{Place, Did}
use Rattle.fdmutex.specs.Deeds.{MadeNoEnd}
use Rattle.fdmutex.specs.Did.{waits, OnlyWaited}

-- once more at the end is once more
once_more : (n : ℕ) (xs : List Op) → repeat n xs ++ xs ≡ repeat (suc n) xs
once_more zero xs = sym (append-nil xs)
once_more (suc n) xs = append_assoc xs (repeat n xs) xs ∙ ap (λ (ys : List Op). xs ++ ys) (once_more n xs)

module _ {R W : Type 0} where
  -- an operation that is no close, no destroy and no drain makes no end
  pub no_end_made : (o : Op) (a : Answer) (p q : Place R W) → is_close o ≡ false → is_destroy o ≡ false
      → is_drain o ≡ false → Did o a p q → MadeNoEnd p q
  no_end_made o a p q no_close no_destroy no_drain made =
      let push : (what : Op → Bool) → count_by what q.me.0.did ≡ count_by what p.me.0.did + bit (what o) =
      λ what. ap (count_by what) made.did ∙ count_by-push what p.me.0.did o in
      let close = push is_close in
      let destroy = push is_destroy in
      let drain = push is_drain in
      let a = ap bit no_close in
      let b = ap bit no_destroy in
      let c = ap bit no_drain in
      (omega arith, omega arith, omega arith)

  -- a place in the queue and a signal are one wait more
  pub waited_again : (d : Dir) (p q r t : Place R W) → OnlyWaited d p q → Did (op.Lock d) answer.Queued q r
      → Did (op.Wake d) answer.Woken r t → OnlyWaited d p t
  waited_again d p q r t was queued woken =
      record {
        times = suc was.times;
        did = woken.did ∙ ap (λ (ops : List Op). ops ++ op.Wake d ∷ []) queued.did
            ∙ append_assoc q.me.0.did (op.Lock d ∷ []) (op.Wake d ∷ [])
            ∙ ap (λ (ops : List Op). ops ++ op.Lock d ∷ op.Wake d ∷ []) was.did
            ∙ append_assoc p.me.0.did (waits d was.times) (op.Lock d ∷ op.Wake d ∷ [])
            ∙ ap (λ (ops : List Op). p.me.0.did ++ ops) (once_more was.times (op.Lock d ∷ op.Wake d ∷ []));
      }
