-- The end, the beginning and new seats, as operations.
use Rattle.std.proofs.Common.{◌≡◌, ◌∙◌, [], ◌∷◌, ◌++◌}
use Rattle.lockword.proofs.Words.{ℕ, zero, suc, List, length, get_or, set, refl, sym, ap, arith, get_or-set_same}
use Rattle.lockword.proofs.Words.{get_or-set_other, some, get_elem?, Stake, Op, Event, LockState, empty, census}
use Rattle.lockword.proofs.Words.{stake_of, allows, outcome, state_after, always_consistent, LocalView, DONE, stakes_of}
use Rattle.lockword.proofs.Words.{deeds_of, newcomer, semaphore, Matches}
use Rattle.lockword_core.specs.declared.stake.Stake.TheVariants as stake
use Rattle.lockword_core.specs.declared.stake.Op.TheVariants as op
use Rattle.lockword_core.specs.declared.stake.Answer.TheVariants as answer
use Rattle.lockword_core.specs.Transition.{destroys}
use Rattle.lockword_core.proofs.StateLemmas.{empty-word}
use Rattle.lockword_core.proofs.HolderLemmas.{beside_word}
use Rattle.lockword.specs.History.{Interleaves}
use Rattle.lockword.proofs.Representation.{both, not_done}
use Rattle.lockword.proofs.ViewLemmas.{stakes_push}
use Rattle.lockword.proofs.HistorySteps.{IsMove, event, one_more, own_stake}

-- ---- The end, the beginning, and new seats

pub destroy_moves : (h : List Event) (id : ℕ) → stake_of (state_after empty h) id ≡ stake.Last
    → IsMove h id op.Destroy answer.Done stake.Free destroys
destroy_moves h id last =
    record { out = ap (λ (x : Stake). outcome (census (state_after empty h)) x op.Destroy) last }

pub destroyed_history : (h : List Event) (words : List ℕ) (views : List LocalView) (id : ℕ) (v w : LocalView)
    → Matches (state_after empty h) words views → length words ≡ 4 → get_elem? views id ≡ some v
    → v.stake ≡ stake.Last → w.stake ≡ stake.Free
    → Matches (state_after empty (h ++ event id op.Destroy ∷ [])) (set words DONE 1) (set views id w)
destroyed_history h words views id v w l wide at last is =
    let st : LockState = state_after empty h in
    let own : stake_of st id ≡ stake.Last = own_stake st words views id v l at ∙ last in
    let made = destroy_moves h id own in
    one_more h words (set words DONE 1) views id v w op.Destroy answer.Done stake.Free destroys l at made is
    (get_or-set_other words 3 0 1 0 (omega arith) ∙ l.state_word
    ∙ sym (beside_word st id op.Destroy answer.Done stake.Free destroys (always_consistent h) tt
    (ap (λ (x : Stake). allows x op.Destroy) own) made.out))
    (λ d. get_or-set_other words 3 (semaphore d) 1 0 (not_done d) ∙ l.semaphores d)
    (get_or-set_same words 3 1 0 (omega arith))

padded_deeds : (xs : List (List Op)) (i : ℕ) → get_or (xs ++ [] ∷ []) i [] ≡ get_or xs i []
padded_deeds [] zero = refl
padded_deeds [] (suc i) = refl
padded_deeds (x ∷ xs) zero = refl
padded_deeds (x ∷ xs) (suc i) = padded_deeds xs i

deeds_push : (views : List LocalView) (w : LocalView) → deeds_of (views ++ w ∷ []) ≡ deeds_of views ++ w.did ∷ []
deeds_push [] w = refl
deeds_push (v ∷ vs) w = ap (λ (ds : List (List Op)). v.did ∷ ds) (deeds_push vs w)

pub split_deeds : (h : List Event) (views : List LocalView) (w : LocalView) → Interleaves h views → w.did ≡ []
    → Interleaves h (views ++ w ∷ [])
split_deeds h views w l none =
    record {
      deeds =
          λ seat. ap (λ (ds : List (List Op)). get_or ds seat [])
          (deeds_push views w ∙ ap (λ (x : List Op). deeds_of views ++ x ∷ []) none)
          ∙ padded_deeds (deeds_of views) seat
          ∙ l.deeds seat;
    }

pub first_deeds : Interleaves [] (newcomer ∷ [])
first_deeds = record { deeds = λ seat. padded_deeds [] seat }

padded : (xs : List Stake) (i : ℕ) → get_or (xs ++ stake.Free ∷ []) i stake.Free ≡ get_or xs i stake.Free
padded [] zero = refl
padded [] (suc i) = refl
padded (x ∷ xs) zero = refl
padded (x ∷ xs) (suc i) = padded xs i

pub split_history : (st : LockState) (words : List ℕ) (views : List LocalView) (w : LocalView) → Matches st words views
    → w.stake ≡ stake.Free → Matches st words (views ++ w ∷ [])
split_history st words views w l free =
    record {
      stakes = λ seat. ap (λ (ys : List Stake). get_or ys seat stake.Free)
          (stakes_push views w ∙ ap (λ (x : Stake). stakes_of views ++ x ∷ []) free) ∙ padded (stakes_of views) seat
          ∙ l.stakes seat;
      state_word = l.state_word;
      semaphores = l.semaphores;
      done_word = l.done_word;
    }

pub first_history : Matches (state_after empty []) (0 ∷ 0 ∷ 0 ∷ 0 ∷ []) (newcomer ∷ [])
first_history =
    record { stakes = λ seat. padded [] seat; state_word = empty-word; semaphores = both _ refl refl; done_word = refl }
