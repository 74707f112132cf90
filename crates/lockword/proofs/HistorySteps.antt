-- The operations that stand behind a running word: each step on the state word is one more, or none.
use Rattle.std.proofs.Common.{◌≡◌, ◌<◌, ◌∙◌, [], ◌∷◌, ◌++◌, Result, Option, append-nil}
use Rattle.std.specs.Prelude.{◌==◌, if◌then◌else◌}
use lib.Seq.{set-get_or}
use Rattle.std.proofs.lemmas.List.{map-set}
use Rattle.lockword.proofs.Words.{ℕ, Bool, true, false, List, length, get_or, set, refl, sym, ap, subst, arith, Ok}
use Rattle.lockword.proofs.Words.{get_or-set_same, get_or-set_other, is_some, dite, some, ℕ_discrete, get_elem?}
use Rattle.lockword.proofs.Words.{nat_tests, set_again, Dir, Stake, Op, Answer, Event, Kind, After, bit, signals_in}
use Rattle.lockword.proofs.Words.{LockState, empty, census, stake_of, encoded, allows, outcome, state_after, op_of}
use Rattle.lockword.proofs.Words.{gained, stepped_word, balance_of, change_of, always_consistent, LocalView, STATE}
use Rattle.lockword.proofs.Words.{DONE, stakes_of, deeds_of, semaphore, Matches, IsMade}
use Rattle.atomic_table.proofs.Lists.{at_map}
use Rattle.lockword_core.specs.declared.stake.Stake.TheVariants as stake
use Rattle.lockword_core.specs.declared.transition.Kind.TheVariants as kind
use Rattle.lockword_core.specs.declared.transition.Refused.{Refused}
use Rattle.lockword_core.specs.Transition.{Change, moved, with_stake, with_change, carried_out, transition}
use Rattle.lockword_core.specs.OperationCounts.{is_refusal, NoneRefused, operations_of}
use Rattle.lockword_core.specs.WordStep.{TellsTransition}
use Rattle.lockword_core.proofs.StateLemmas.{counted_in, tells_transition}
use Rattle.lockword_core.proofs.WordRefines.{steps_as}
use Rattle.lockword_core.proofs.ReplayLemmas.{state_after-append}
use Rattle.lockword_core.proofs.HolderLemmas.{stake-own, stake-other}
use Rattle.lockword_core.proofs.OperationAdds.{move_is_no_refusal}
use Rattle.lockword_core.proofs.OperationLemmas.{none_refused-push}
use Rattle.lockword.specs.History.{Interleaves, IsView, GoesOn}
use Rattle.lockword.proofs.Representation.{not_state}
use Rattle.lockword.proofs.ViewLemmas.{at_there, stake_at, stakes-set, same_stakes}

-- ---- Steps that are no operation

-- a new view with the same stake, where no word changes
pub same_history : (st : LockState) (words : List ℕ) (views : List LocalView) (i id : ℕ) (v w : LocalView)
    → Matches st words views → get_elem? views id ≡ some v → w.stake ≡ v.stake
    → Matches st (set words i (get_or words i 0)) (set views id w)
same_history st words views i id v w l at e =
    subst (λ (ws : List ℕ). Matches st ws (set views id w)) (sym (set-get_or words i 0))
    record {
      stakes = λ seat. ap (λ (ys : List Stake). get_or ys seat stake.Free) (same_stakes views id v w at e)
          ∙ l.stakes seat;
      state_word = l.state_word;
      semaphores = l.semaphores;
      done_word = l.done_word;
    }

-- what the seats did, where none did more
pub same_deeds : (h : List Event) (views : List LocalView) (id : ℕ) (v w : LocalView) → Interleaves h views
    → get_elem? views id ≡ some v → w.did ≡ v.did → Interleaves h (set views id w)
same_deeds h views id v w l at e =
    record {
      deeds = λ seat. ap (λ (ds : List (List Op)). get_or ds seat [])
          (map-set (λ (x : LocalView). x.did) views id w ∙ ap (set (deeds_of views) id) e
          ∙ set_again (deeds_of views) id v.did (at_map (λ (x : LocalView). x.did) views id v at)) ∙ l.deeds seat;
    }

-- ---- Steps that are operations

abbrev pub event : ℕ → Op → Event
event seat o = record { holder = seat; op = o }

-- the stake of the seat that acts
pub own_stake : (st : LockState) (words : List ℕ) (views : List LocalView) (id : ℕ) (v : LocalView)
    → Matches st words views → get_elem? views id ≡ some v → stake_of st id ≡ v.stake
own_stake st words views id v l at =
    sym (l.stakes id) ∙ (at_there (stakes_of views) id v.stake (stake_at views id v at)).1 stake.Free

-- the stakes once one seat has another
stakes_after : (st : LockState) (words : List ℕ) (views : List LocalView) (id : ℕ) (v w : LocalView) (new : Stake)
    (change : Change)
    → Matches st words views → get_elem? views id ≡ some v → w.stake ≡ new → (seat : ℕ)
    → get_or (stakes_of (set views id w)) seat stake.Free ≡ stake_of (with_change (with_stake st id new) id change) seat
stakes_after st words views id v w new change l at is seat =
    let there : id < length (stakes_of views) = (at_there (stakes_of views) id v.stake (stake_at views id v at)).0 in
    ap (λ (ys : List Stake). get_or ys seat stake.Free) (stakes-set views id w)
    ∙ dite (ℕ_discrete seat id)
    (λ e. subst (λ (q : ℕ). get_or (set (stakes_of views) id w.stake) q stake.Free
    ≡ stake_of (with_change (with_stake st id new) id change) q) (sym e)
    (get_or-set_same (stakes_of views) id w.stake stake.Free there ∙ is ∙ sym (stake-own st id new change)))
    (λ ne. get_or-set_other (stakes_of views) id seat w.stake stake.Free ne ∙ l.stakes seat
    ∙ sym (stake-other st id seat new change ne))

-- an operation of a seat is a move of the core, after the list of operations so far
pub record IsMove (h : List Event) (id : ℕ) (o : Op) (a : Answer) (new : Stake) (change : Change) : Type 0 where
  pub out : outcome (census (state_after empty h)) (stake_of (state_after empty h) id) o ≡ moved a new change

abbrev pub next_state : List Event → ℕ → Stake → Change → LockState
next_state h id new change = with_change (with_stake (state_after empty h) id new) id change

pub leads_to : (h : List Event) (id : ℕ) (o : Op) (a : Answer) (new : Stake) (change : Change)
    → IsMove h id o a new change
    → transition (state_after empty h) id o ≡ (next_state h id new change, a)
leads_to h id o a new change is = ap (carried_out (state_after empty h) id) is.out

-- it isn't refused
pub none_refused_more : (h : List Event) (id : ℕ) (o : Op) (a : Answer) (new : Stake) (change : Change)
    → IsMove h id o a new change → NoneRefused h → NoneRefused (h ++ event id o ∷ [])
none_refused_more h id o a new change is none =
    none_refused-push h (event id o) none
    (ap (λ (p : LockState × Answer). is_refusal p.1) (leads_to h id o a new change is)
    ∙ move_is_no_refusal (census (state_after empty h)) (stake_of (state_after empty h) id) o a new change is.out)

-- one operation more, by the seat whose view changes
pub one_more : (h : List Event) (words words' : List ℕ) (views : List LocalView) (id : ℕ) (v w : LocalView) (o : Op)
    (a : Answer) (new : Stake) (change : Change)
    → Matches (state_after empty h) words views → get_elem? views id ≡ some v → IsMove h id o a new change
    → w.stake ≡ new
    → get_or words' STATE 0 ≡ encoded (census (next_state h id new change))
    → ((d : Dir) → get_or words' (semaphore d) 0 ≡ signals_in d (next_state h id new change).signals)
    → get_or words' DONE 0 ≡ bit (is_some (next_state h id new change).destroyed_by)
    → Matches (state_after empty (h ++ event id o ∷ [])) words' (set views id w)
one_more h words words' views id v w o a new change l at made is state signals mark =
    let leads : state_after empty (h ++ event id o ∷ []) ≡ next_state h id new change =
    state_after-append empty h (event id o ∷ [])
    ∙ ap (λ (p : LockState × Answer). p.0) (leads_to h id o a new change made) in
    subst (λ (s : LockState). Matches s words' (set views id w)) (sym leads)
    record {
      stakes = stakes_after (state_after empty h) words views id v w new change l at is;
      state_word = state;
      semaphores = signals;
      done_word = mark;
    }

both_lists : (t : Bool) (o : Op) (xs ys more : List Op) → xs ≡ ys ++ more
    → (if t then o ∷ xs else xs) ≡ (if t then o ∷ ys else ys) ++ more
both_lists true o xs ys more e = ap (λ (zs : List Op). o ∷ zs) e
both_lists false o xs ys more e = e

operations_of-push : (seat id : ℕ) (o : Op) (h : List Event)
    → operations_of seat (h ++ event id o ∷ []) ≡ operations_of seat h ++ (if id == seat then o ∷ [] else [])
operations_of-push seat id o [] = refl
operations_of-push seat id o (e ∷ h) = both_lists (e.holder == seat) e.op _ _ _ (operations_of-push seat id o h)

pub same_number : (n : ℕ) → (n == n) ≡ true
same_number n = grind (arith, nat_tests)

pub other_number : (m n : ℕ) → (n ≡ m → ⊥) → (m == n) ≡ false
other_number m n ne = grind (arith, nat_tests)

pub own_deeds : (h : List Event) (views : List LocalView) (id : ℕ) (v : LocalView) → Interleaves h views
    → get_elem? views id ≡ some v → v.did ≡ operations_of id h
own_deeds h views id v l at =
    sym ((at_there (deeds_of views) id v.did (at_map (λ (x : LocalView). x.did) views id v at)).1 []) ∙ l.deeds id

-- one operation more of one seat
pub more_deeds : (h : List Event) (views : List LocalView) (id : ℕ) (v w : LocalView) (o : Op) → Interleaves h views
    → get_elem? views id ≡ some v → w.did ≡ v.did ++ o ∷ [] → Interleaves (h ++ event id o ∷ []) (set views id w)
more_deeds h views id v w o l at e =
    let there : id < length (deeds_of views) =
    (at_there (deeds_of views) id v.did (at_map (λ (x : LocalView). x.did) views id v at)).0 in
    let own : v.did ≡ operations_of id h = own_deeds h views id v l at in
    record {
      deeds = λ seat. ap (λ (ds : List (List Op)). get_or ds seat []) (map-set (λ (x : LocalView). x.did) views id w)
          ∙ dite (ℕ_discrete seat id)
          (λ here. subst (λ (q : ℕ). get_or (set (deeds_of views) id w.did) q []
          ≡ operations_of q (h ++ event id o ∷ [])) (sym here)
          (get_or-set_same (deeds_of views) id w.did [] there ∙ e ∙ ap (λ (ds : List Op). ds ++ o ∷ []) own
          ∙ sym (operations_of-push id id o h
          ∙ ap (λ (t : Bool). operations_of id h ++ (if t then o ∷ [] else [])) (same_number id))))
          (λ ne. get_or-set_other (deeds_of views) id seat w.did [] ne ∙ l.deeds seat
          ∙ sym (operations_of-push seat id o h ∙ ap (λ (t : Bool). operations_of seat h ++ (if t then o ∷ [] else []))
          (other_number id seat ne) ∙ append-nil (operations_of seat h)));
    }

-- the view that a seat has, at the history that leads here
pub own_view : (h : List Event) (words : List ℕ) (views : List LocalView) (id : ℕ) (v : LocalView)
    → Matches (state_after empty h) words views → Interleaves h views → get_elem? views id ≡ some v
    → (v.saw.closed ≡ true → (state_after empty h).closed ≡ true)
    → (v.saw.draining ≡ true → (state_after empty h).draining ≡ true)
    → (v.saw.done ≡ true → is_some (state_after empty h).destroyed_by ≡ true) → IsView h id v
own_view h words views id v l i at closed draining done =
    record {
      did = own_deeds h views id v i at;
      stake = own_stake (state_after empty h) words views id v l at;
      saw_closed = closed;
      saw_draining = draining;
      saw_done = done;
    }

-- a move of the core is made by this seat
pub is_made : (h : List Event) (id : ℕ) (v w : LocalView) (o : Op) (a : Answer) (new : Stake) (change : Change)
    → NoneRefused h → IsView h id v → IsMove h id o a new change → w.stake ≡ new → w.did ≡ v.did ++ o ∷ []
    → GoesOn v.heard h → w.heard ≡ h ++ event id o ∷ [] → IsMade o a v w
is_made h id v w o a new change none own made is did so_far heard =
    let leads = leads_to h id o a new change made in
    record {
      history = h;
      none_refused = none;
      seat = id;
      own = own;
      answered = ap (λ (p : LockState × Answer). p.1) leads;
      stake = ap (λ (p : LockState × Answer). stake_of p.0 id) leads ∙ stake-own (state_after empty h) id new change
          ∙ sym is;
      did = did;
      goes_on = so_far;
      heard = heard;
    }

-- ---- Exchanges of the state word

keeps_signals : (st : LockState) (id : ℕ) (new : Stake) (k : Kind)
    → (with_change (with_stake st id new) id (change_of k)).signals ≡ st.signals
keeps_signals st id new kind.Incref = refl
keeps_signals st id new kind.Decref = refl
keeps_signals st id new (kind.Lock d) = refl
keeps_signals st id new (kind.Unlock d) = refl
keeps_signals st id new kind.Close = refl
keeps_signals st id new kind.Drain = refl

keeps_mark : (st : LockState) (id : ℕ) (new : Stake) (k : Kind)
    → (with_change (with_stake st id new) id (change_of k)).destroyed_by ≡ st.destroyed_by
keeps_mark st id new kind.Incref = refl
keeps_mark st id new kind.Decref = refl
keeps_mark st id new (kind.Lock d) = refl
keeps_mark st id new (kind.Unlock d) = refl
keeps_mark st id new kind.Close = refl
keeps_mark st id new kind.Drain = refl

-- a step of this kind is the operation, with its answer and its stake
pub step_moves : (h : List Event) (id : ℕ) (k : Kind) (a : After) (n m : ℕ) → n ≡ encoded (census (state_after empty h))
    → allows (stake_of (state_after empty h) id) (op_of k) ≡ true → stepped_word n k ≡ Ok (m, a)
    → IsMove h id (op_of k) (gained k a).0 (gained k a).1 (change_of k)
step_moves h id k a n m is may step =
    let st : LockState = state_after empty h in
    let good = always_consistent h in
    record {
      out = steps_as (census st) (stake_of st id) k a (encoded (census st)) m
          (balance_of (census st) good.counts) (counted_in st id good) may
          (ap (λ (x : ℕ). stepped_word x k) (sym is) ∙ step);
    }

-- the word after it
step_word : (h : List Event) (id : ℕ) (k : Kind) (a : After) (n m : ℕ) → n ≡ encoded (census (state_after empty h))
    → allows (stake_of (state_after empty h) id) (op_of k) ≡ true → stepped_word n k ≡ Ok (m, a)
    → m ≡ encoded (census (next_state h id (gained k a).1 (change_of k)))
step_word h id k a n m is may step =
    let st : LockState = state_after empty h in
    let next : TellsTransition st k (transition st id (op_of k)) (Ok (m, a)) =
    subst (λ (r : Result (ℕ × After) Refused). TellsTransition st k (transition st id (op_of k)) r) step
    (tells_transition st id k n (always_consistent h) is may) in
    next.1 ∙ ap (λ (p : LockState × Answer). encoded (census p.0))
    (leads_to h id (op_of k) _ _ _ (step_moves h id k a n m is may step))

pub stepped_history : (h : List Event) (words : List ℕ) (views : List LocalView) (id : ℕ) (v w : LocalView) (k : Kind)
    (a : After) (n m : ℕ)
    → Matches (state_after empty h) words views → length words ≡ 4 → get_elem? views id ≡ some v
    → allows v.stake (op_of k) ≡ true → stepped_word n k ≡ Ok (m, a) → get_or words STATE 0 ≡ n
    → w.stake ≡ (gained k a).1
    → Matches (state_after empty (h ++ event id (op_of k) ∷ [])) (set words STATE m) (set views id w)
stepped_history h words views id v w k a n m l wide at may step found is =
    let st : LockState = state_after empty h in
    let own_may = ap (λ (x : Stake). allows x (op_of k)) (own_stake st words views id v l at) ∙ may in
    let here : n ≡ encoded (census st) = sym found ∙ l.state_word in
    one_more h words (set words STATE m) views id v w (op_of k) (gained k a).0 (gained k a).1 (change_of k) l at
    (step_moves h id k a n m here own_may step) is
    (get_or-set_same words 0 m 0 (omega arith) ∙ step_word h id k a n m here own_may step)
    (λ d. get_or-set_other words 0 (semaphore d) m 0 (not_state d) ∙ l.semaphores d
    ∙ ap (signals_in d) (sym (keeps_signals st id (gained k a).1 k)))
    (get_or-set_other words 0 3 m 0 (omega arith) ∙ l.done_word
    ∙ ap (λ (o : Option ℕ). bit (is_some o)) (sym (keeps_mark st id (gained k a).1 k)))
