-- What a seat has heard once a step was made, and once a try to close was answered.
use Rattle.std.proofs.Common.{◌≡◌, ◌∙◌, [], ◌∷◌, ◌++◌, rules, List, subst, sym, ap, true, Result, Ok, Err}
use Rattle.lockword_core.specs.declared.stake.Event.{Event}
use Rattle.lockword_core.specs.declared.stake.Op.{Op}
use Rattle.lockword.specs.declared.local_view.Marks.{Marks}
use Rattle.lockword_core.specs.declared.stake.Answer.{Answer}
use Rattle.lockword_core.specs.declared.word.Word.{Word}
use Rattle.lockword_core.specs.declared.transition.Kind.TheVariants as kind
use Rattle.lockword.proofs.HeardSteps.{goes_further, goes_on_on}
use Rattle.lockword.specs.declared.local_view.LocalView.{LocalView}
use Rattle.lockword.specs.declared.holders.Seat.{Seat}
use Rattle.lockword.specs.declared.holders.Close.{Close}
use Rattle.lockword.specs.declared.holders.Close.TheVariants as close
use Rattle.lockword.specs.declared.holders.Closing.{Closing}
use Rattle.lockword.specs.History.{IsMade, GoesOn}
use Rattle.lockword.specs.Marks.{Place, HeardOn, Heard, LostStep}
use Rattle.lockword.specs.Places.{seat_place, closing_place}
use Rattle.lockword.specs.TransitionOutcomes.{AnswersClose}
use Rattle.fdmutex.specs.Did.{TellsHeardWord}
use Rattle.fdmutex.specs.Heard.{TakesHearing}
use Rattle.fdmutex.specs.Refusal.{close_answer}
use Rattle.fdmutex.specs.declared.answers.Refusal.{Refusal}

-- what a seat has heard with its operation goes on from what it had heard
pub hears_on : (o : Op) (a : Answer) (v w : LocalView) → IsMade o a v w → GoesOn v.heard w.heard
hears_on o a v w made =
    subst (λ (h : List Event). GoesOn v.heard h) (sym made.heard)
    (goes_further v.heard made.history record { holder = made.seat; op = o } made.goes_on)

-- ---- An operation that was made after tries that did nothing

-- the operation of a seat that only looked since is an operation of what it was before
pub made_since : (o : Op) (a : Answer) (v u w : LocalView) → u.did ≡ v.did → u.stake ≡ v.stake
    → (v.saw.closed ≡ true → u.saw.closed ≡ true) → (v.saw.draining ≡ true → u.saw.draining ≡ true)
    → u.saw.done ≡ v.saw.done → GoesOn v.heard u.heard → IsMade o a u w → IsMade o a v w
made_since o a v u w did stake closed draining done early made =
    record {
      history = made.history;
      none_refused = made.none_refused;
      seat = made.seat;
      own = record {
        did = sym did ∙ made.own.did;
        stake = made.own.stake ∙ stake;
        saw_closed = λ e. made.own.saw_closed (closed e);
        saw_draining = λ e. made.own.saw_draining (draining e);
        saw_done = λ e. made.own.saw_done (done ∙ e);
      };
      answered = made.answered;
      stake = made.stake;
      did = made.did ∙ ap (λ (ops : List Op). ops ++ o ∷ []) did;
      goes_on = goes_on_on _ _ _ early made.goes_on;
      heard = made.heard;
    }

-- the same where the marks are the same
pub made_so : (o : Op) (a : Answer) (v u w : LocalView) → u.did ≡ v.did → u.stake ≡ v.stake → u.saw ≡ v.saw
    → GoesOn v.heard u.heard → IsMade o a u w → IsMade o a v w
made_so o a v u w did stake saw early made =
    made_since o a v u w did stake (λ e. ap (λ (m : Marks). m.closed) saw ∙ e)
    (λ e. ap (λ (m : Marks). m.draining) saw ∙ e) (ap (λ (m : Marks). m.done) saw) early made

-- what a seat hears that had heard less goes on from that too
pub told_since : {R W : Type 0} (w : Word) (p q r : Place R W) → HeardOn p q → Heard w q r → Heard w p r
told_since w p q r early heard =
    record {
      goes_on = goes_on_on _ _ _ early heard.goes_on;
      none_refused = heard.none_refused;
      leads = heard.leads;
      seat = heard.seat;
      own = heard.own;
    }

module _ {R W : Type 0} where
  -- only a try that was lost is made again
  pub lost_again : (before back : Seat R W) (tried : Close R W) → AnswersClose (seat_place before) tried
      → close_answer tried ≡ Err back → LostStep kind.Close (seat_place before) (seat_place back)
  lost_again before back (close.Closing c) answers e = absurd (cc)
  lost_again before back (close.Closed s) answers e = absurd (cc)
  lost_again before back (close.TooMany s w) answers e = absurd (cc)
  lost_again before back (close.Lost s) answers e = search rules

  -- what the seat has heard goes on, whatever the answer is
  pub close_heard : (first before : Seat R W) (tried : Close R W) (answer : Result (Closing R W) (Seat R W × Refusal))
      → HeardOn (seat_place first) (seat_place before) → AnswersClose (seat_place before) tried
      → close_answer tried ≡ Ok answer → TakesHearing closing_place first answer
  close_heard first before (close.Closing c) (Ok d) early answers e =
      let heard = goes_on_on _ _ _ early (hears_on _ _ _ _ answers.1) in search rules
  close_heard first before (close.Closing c) (Err d) early answers e = absurd (cc)
  close_heard first before (close.Closed s) (Ok d) early answers e = absurd (cc)
  close_heard first before (close.Closed s) (Err d) early answers e =
      let heard = goes_on_on _ _ _ early answers.1.1 in search rules
  close_heard first before (close.TooMany s w) (Ok d) early answers e = absurd (cc)
  close_heard first before (close.TooMany s w) (Err d) early answers e =
      let heard = goes_on_on _ _ _ early answers.2.goes_on in search rules
  close_heard first before (close.Lost s) answer early answers e = absurd (cc)

  -- a word that is told was heard
  pub close_told : (first before : Seat R W) (tried : Close R W) (answer : Result (Closing R W) (Seat R W × Refusal))
      → HeardOn (seat_place first) (seat_place before) → AnswersClose (seat_place before) tried
      → close_answer tried ≡ Ok answer → TellsHeardWord first answer
  close_told first before (close.Closing c) (Ok d) early answers e = tt
  close_told first before (close.Closing c) (Err d) early answers e = absurd (cc)
  close_told first before (close.Closed s) (Ok d) early answers e = absurd (cc)
  close_told first before (close.Closed s) (Err d) early answers e = search rules
  close_told first before (close.TooMany s w) (Ok d) early answers e = absurd (cc)
  close_told first before (close.TooMany s w) (Err d) early answers e =
      let heard : Heard w (seat_place first) (seat_place s) =
      told_since {R = R} {W = W} w (seat_place first) (seat_place before) (seat_place s) early answers.2 in
      search rules
  close_told first before (close.Lost s) answer early answers e = absurd (cc)
