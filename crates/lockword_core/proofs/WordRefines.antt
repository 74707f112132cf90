-- A step on the packed word is the operation on the census whose word it is.
use Rattle.std.proofs.Common.{◌≡◌, ◌≢◌, ◌<◌, ◌∙◌}
use Rattle.std.specs.Prelude.{◌==◌, ◌&&◌, if◌then◌else◌, Result, Ok}
use Rattle.lockword_core.proofs.Words.{ℕ, Bool, true, false, List, refl, sym, ap, arith, subst, Err, Dir}
use Rattle.lockword_core.proofs.Words.{Read, Write, Stake, Answer, Word, Kind, After, Refused, bit, IsWord, packed}
use Rattle.lockword_core.proofs.Words.{waiters_in, Census, locks, number, pending, encoded, IsConsistentCensus}
use Rattle.lockword_core.proofs.Words.{IsCounted, ChangesOneStake, lock_of, waiters_of, fields_after, field_step}
use Rattle.lockword_core.proofs.Words.{stepped_word, nothing, Outcome, refused, moved, allows, outcome, lock_stake}
use Rattle.lockword_core.proofs.Words.{drains_stake}
use Rattle.lockword_core.proofs.Words.{changed, op_of, gained, Tells}
use Rattle.lockword_core.specs.declared.stake.Stake.TheVariants as stake
use Rattle.lockword_core.specs.declared.transition.Kind.TheVariants as kind
use Rattle.lockword_core.specs.declared.transition.After.TheVariants as after
use Rattle.lockword_core.specs.declared.transition.Refused.TheVariants as why
use Rattle.lockword_core.specs.FieldStep.{packed_result}
use Rattle.lockword_core.specs.WordStep.{refusal_of}
use Rattle.lockword_core.proofs.FieldSteps.{same_numbers, not_false, IsMade, Shows, Stepped, stepped}
use Rattle.lockword_core.proofs.WordFields.{fields_fit, locked_sum, queued_sum, unlocked_sum, owing_sum, close_sum}
use Rattle.lockword_core.proofs.WordFields.{drain_sum}
use Rattle.lockword_core.proofs.BalanceLemmas as laws
use Rattle.lockword_core.proofs.BalanceLemmas.{IsBalanced, reads_as, zeros}
use Rattle.lockword_core.proofs.InvariantPreserved.{balance_of, encoded_of, bit-true}
use Rattle.lockword_core.proofs.WordTable.{allowed_is, change_of, fields_of, outcome_of, packs_fields, same_fields}

-- ---- A step that is made keeps the balance

-- the closer that gives its reference back owes nothing
no_debt : {before after : List Stake} (r w : ℕ) (new : Stake) → (r == 0 && w == 0) ≡ true
    → ChangesOneStake before (stake.Closing r w) after new → ChangesOneStake before (stake.Closing 0 0) after new
no_debt {before} {after} r w new may one =
    let both = zeros r w may in
    subst (λ (k : ℕ). ChangesOneStake before (stake.Closing 0 k) after new) both.1
    (subst (λ (k : ℕ). ChangesOneStake before (stake.Closing k w) after new) both.0 one)

none_held : (d : Dir) (c : Census) → lock_of d (fields_of c) ≡ false → number (locks d) c ≡ 0
none_held Read c e = same_numbers _ _ (not_false _ e)
none_held Write c e = same_numbers _ _ (not_false _ e)

waiters_are : (d : Dir) (c : Census) → waiters_of d (fields_of c) ≡ pending d c
waiters_are Read c = refl
waiters_are Write c = refl

-- the census after a step that its stake allows balances at the word that the table gives
keeps : (c : Census) (own : Stake) (k : Kind) (n : ℕ) (g : Word) (a : After) → IsBalanced c n → packed (fields_of c) ≡ n
    → allows own (op_of k) ≡ true → IsMade (fields_of c) k a g
    → (ys : List Stake) → ChangesOneStake c.stakes own ys (gained k a).1
    → IsBalanced (changed c ys (change_of k)) (packed g)
keeps c own k n g a b is may made ys one =
    subst (λ (h : Word). IsBalanced (changed c ys (change_of k)) (packed h)) (sym made.leaves) (by own k a may made one)
  where
    f : Word
    f = fields_of c

    at : (x : Census) (m j : ℕ) → m ≡ j → IsBalanced x m → IsBalanced x j
    at x m j e kept = subst (λ (k : ℕ). IsBalanced x k) e kept

    fits : IsWord f
    fits = subst IsWord (same_fields c n b) (fields_fit n)

    unlike : (d : Dir) (k : ℕ) → waiters_of d f ≢ k → waiters_in d n ≢ k
    unlike d k ne e = ne (waiters_are d c ∙ sym ((reads_as c n b).waiters d) ∙ e)

    more : f.refs ≢ 0 → (f.closed ≡ true → f.refs ≢ 1) → bit c.closed ≡ 1 → 1 < f.refs
    more some not_one shut = let one = not_one (bit-true c.closed shut) in omega arith

    unlocks : (d : Dir) (a : After) → Shows f (kind.Unlock d) a
        → ChangesOneStake c.stakes (lock_stake d) ys (gained (kind.Unlock d) a).1
        → IsBalanced (changed c ys nothing) (packed (fields_after f (kind.Unlock d) a))
    unlocks d after.Owes (held, waits) one =
        at _ _ _ (owing_sum d f n is held.locked held.counted waits) (laws.owe_keeps c ys n b d one (unlike d _ waits))
    unlocks d after.Kept (held, l) one =
        at _ _ _ (unlocked_sum d f n is held.locked held.counted)
        (laws.unlock_keeps c ys n b d one (more held.counted l))
    unlocks d after.Last (held, l) one =
        at _ _ _ (unlocked_sum d f n is held.locked held.counted)
        (laws.last_unlock_keeps c ys n b d one (ap bit l.0) l.1)
    unlocks d _ (held, l) one = absurd l

    owing_all : (owing : ℕ → ℕ → Stake) (x y : ℕ) → x ≡ f.rwait → y ≡ f.wwait
        → ChangesOneStake c.stakes stake.Free ys (owing x y)
        → ChangesOneStake c.stakes stake.Free ys (owing (waiters_in Read n) (waiters_in Write n))
    owing_all owing x y e h one =
        let r = reads_as c n b in
        subst (λ (p : ℕ × ℕ). ChangesOneStake c.stakes stake.Free ys (owing p.0 p.1))
        (λ i. ((e ∙ sym (r.waiters Read)) i, (h ∙ sym (r.waiters Write)) i)) one

    by : (own : Stake) (k : Kind) (a : After) → allows own (op_of k) ≡ true → IsMade f k a g
        → ChangesOneStake c.stakes own ys (gained k a).1
        → IsBalanced (changed c ys (change_of k)) (packed (fields_after f k a))
    by stake.Free kind.Incref after.Held may made one =
        at _ _ _ (omega arith)
        (laws.incref_keeps c ys n b one (ap bit (made.passes why.Closed)) (ap bit (made.passes why.Draining))
        made.shows)
    by stake.Free kind.Close (after.Closing x y) may made one =
        let unshut : bit c.closed ≡ 0 = ap bit (made.passes why.Closed) in
        at _ _ _ (close_sum f n fits is unshut ((reads_as c n b).waiters Read) ((reads_as c n b).waiters Write))
        (laws.close_keeps c ys n b (owing_all (λ r w. stake.Closing r w) x y made.shows.1 made.shows.2 one) unshut
        made.shows.0)
    by stake.Free kind.Drain (after.Drained x y) may made one =
        at _ _ _ (drain_sum f n fits is)
        (laws.drain_keeps c ys n b (owing_all drains_stake x y made.shows.0 made.shows.1 one)
        (ap bit (made.passes why.Closed)) (ap bit (made.passes why.Draining)))
    by stake.Free (kind.Lock d) after.Held may made one =
        at _ _ _ (locked_sum d f n is made.shows.0)
        (laws.lock_keeps c ys n b d one (ap bit (made.passes why.Closed)) (ap bit (made.passes why.Draining))
        (none_held d c made.shows.0) made.shows.1)
    by stake.Free (kind.Lock d) after.Queued may made one =
        at _ _ _ (queued_sum d f n is)
        (laws.queue_keeps c ys n b d one (ap bit (made.passes why.Closed)) (ap bit (made.passes why.Draining))
        (unlike d _ made.shows.1))
    by stake.Ref kind.Decref after.Kept may made one =
        let some = made.shows.0 in at _ _ _ (omega arith) (laws.drop_ref_keeps c ys n b one (more some made.shows.1))
    by stake.Ref kind.Decref after.Last may made one =
        let some = made.shows.0 in
        at _ _ _ (omega arith) (laws.last_ref_keeps c ys n b one (ap bit made.shows.1.0) made.shows.1.1)
    by (stake.Closing x y) kind.Decref after.Kept may made one =
        let some = made.shows.0 in
        at _ _ _ (omega arith)
        (laws.drop_closing_keeps c ys n b (no_debt x y stake.Free may one) (more some made.shows.1))
    by (stake.Closing x y) kind.Decref after.Last may made one =
        let some = made.shows.0 in
        at _ _ _ (omega arith)
        (laws.last_closing_keeps c ys n b (no_debt x y stake.Last may one) (ap bit made.shows.1.0) made.shows.1.1)
    by stake.Read (kind.Unlock Read) a may made one = unlocks Read a made.shows one
    by stake.Write (kind.Unlock Write) a may made one = unlocks Write a made.shows one
    by stake.Free kind.Incref _ may made one = absurd made.shows
    by stake.Free kind.Close _ may made one = absurd made.shows
    by stake.Free kind.Drain _ may made one = absurd made.shows
    by stake.Free (kind.Lock d) _ may made one = absurd made.shows
    by stake.Ref kind.Decref _ may made one = absurd made.shows.1
    by (stake.Closing x y) kind.Decref _ may made one = absurd made.shows.1
    by stake.Read (kind.Unlock Write) _ may made one = absurd (cc)
    by stake.Write (kind.Unlock Read) _ may made one = absurd (cc)
    by _ kind.Incref _ may made one = absurd (cc)
    by _ kind.Decref _ may made one = absurd (cc)
    by _ (kind.Lock d) _ may made one = absurd (cc)
    by _ (kind.Unlock d) _ may made one = absurd (cc)
    by _ kind.Close _ may made one = absurd (cc)
    by _ kind.Drain _ may made one = absurd (cc)

abbrev ok_of : ℕ × After → Result (ℕ × After) Refused
ok_of x = Ok x

pub same_pair : (x y : ℕ × After) → ok_of x ≡ ok_of y → x ≡ y
same_pair x y e = cc

-- the same, for the word that the step on the word gives
pub stepped_keeps : (c : Census) (own : Stake) (k : Kind) (a : After) (n m : ℕ) (ys : List Stake) → IsBalanced c n
    → allows own (op_of k) ≡ true → stepped_word n k ≡ Ok (m, a)
    → ChangesOneStake c.stakes own ys (gained k a).1 → IsBalanced (changed c ys (change_of k)) m
stepped_keeps c own k a n m ys b may is one =
    by (field_step (fields_of c) k) (stepped (fields_of c) k)
    (ap (λ (f : Word). packed_result (field_step f k)) (sym (same_fields c n b)) ∙ is)
  where
    by : (r : Result (Word × After) Refused) → Stepped (fields_of c) k r → packed_result r ≡ Ok (m, a)
        → IsBalanced (changed c ys (change_of k)) m
    by (Ok (g, x)) made e =
        let pair = same_pair (packed g, x) (m, a) e in
        subst (λ (p : ℕ × After). IsBalanced (changed c ys (change_of k)) p.0) pair
        (keeps c own k n g x b (packs_fields c n b) may made ys
        (subst (λ (p : ℕ × After). ChangesOneStake c.stakes own ys (gained k p.1).1) (sym pair) one))
    by (Err x) first e = absurd (cc)

-- ---- What a step on the word comes to

-- a refusal of the word for a refusal of the census; else the answer and the stake of the census, and a balance at the
-- word
abbrev pub StepIs : Census → Stake → Kind → Outcome → Result (ℕ × After) Refused → Type 0
StepIs c own k (refused a) r = (e : Refused) × (r ≡ Err e) × (a ≡ refusal_of e)
StepIs c own k (moved a new change) r =
    (n : ℕ) × (gain : After) × (r ≡ Ok (n, gain)) × (gained k gain ≡ (a, new))
    × ((stakes : List Stake) → ChangesOneStake c.stakes own stakes new → IsBalanced (changed c stakes change) n)

pub pick_else : {A : Type 0} (b : Bool) (x y : A) → b ≡ false → (if b then x else y) ≡ y
pick_else true x y e = absurd (cc)
pick_else false x y e = refl

pub pick_then : {A : Type 0} (b : Bool) (x y : A) → b ≡ true → (if b then x else y) ≡ x
pick_then true x y e = refl
pick_then false x y e = absurd (cc)

-- a step that the stake allows, on the word that balances the census
pub step_is : (c : Census) (own : Stake) (k : Kind) (n : ℕ) → IsBalanced c n → IsCounted c own
    → allows own (op_of k) ≡ true → StepIs c own k (outcome c own (op_of k)) (stepped_word n k)
step_is c own k n b counted may =
    subst (λ (o : Outcome). StepIs c own k o (stepped_word n k))
    (sym (pick_then (allows own (op_of k)) _ _ may ∙ allowed_is c own k counted may))
    (subst (λ (f : Word). StepIs c own k (outcome_of k (field_step (fields_of c) k)) (packed_result (field_step f k)))
    (sym (same_fields c n b))
    (by (field_step (fields_of c) k) (stepped (fields_of c) k)))
  where
    by : (r : Result (Word × After) Refused) → Stepped (fields_of c) k r
        → StepIs c own k (outcome_of k r) (packed_result r)
    by (Ok (g, a)) made = (packed g, a, refl, refl, keeps c own k n g a b (packs_fields c n b) may made)
    by (Err e) first = (e, refl, refl)

-- ---- The contract of a step on the word

tells_of : (c : Census) (own : Stake) (k : Kind) (o : Outcome) (r : Result (ℕ × After) Refused) → StepIs c own k o r
    → Tells c own k o r
tells_of c own k (refused a) r (e, is, same) = rw is (ap refused same)
tells_of c own k (moved a new change) r (n, gain, is, same, balance) =
    let goal : Tells c own k (moved a new change) (Ok (n, gain)) = (
      change,
      ap (λ (p : Answer × Stake). moved p.0 p.1 change) (sym same),
      λ stakes one. encoded_of (changed c stakes change) n
          (balance stakes
          (subst (λ (s : Stake). ChangesOneStake c.stakes own stakes s) (ap (λ (p : Answer × Stake). p.1) same) one)),
    ) in
    rw is goal

pub tells : (c : Census) (own : Stake) (k : Kind) (n : ℕ) → IsConsistentCensus c → IsCounted c own → n ≡ encoded c
    → allows own (op_of k) ≡ true → Tells c own k (outcome c own (op_of k)) (stepped_word n k)
tells c own k n good counted is may =
    tells_of c own k (outcome c own (op_of k)) (stepped_word n k)
    (step_is c own k n (subst (λ (m : ℕ). IsBalanced c m) (sym is) (balance_of c good)) counted may)

-- what a step on the word comes to is what the operation comes to, with its change
pub steps_as : (c : Census) (own : Stake) (k : Kind) (a : After) (n m : ℕ) → IsBalanced c n → IsCounted c own
    → allows own (op_of k) ≡ true → stepped_word n k ≡ Ok (m, a)
    → outcome c own (op_of k) ≡ moved (gained k a).0 (gained k a).1 (change_of k)
steps_as c own k a n m b counted may step =
    pick_then (allows own (op_of k)) _ _ may ∙ allowed_is c own k counted may
    ∙ by (field_step (fields_of c) k)
    (ap (λ (f : Word). packed_result (field_step f k)) (sym (same_fields c n b)) ∙ step)
  where
    by : (r : Result (Word × After) Refused) → packed_result r ≡ Ok (m, a)
        → outcome_of k r ≡ moved (gained k a).0 (gained k a).1 (change_of k)
    by (Ok (g, x)) e =
        ap (λ (p : ℕ × After). moved (gained k p.1).0 (gained k p.1).1 (change_of k)) (same_pair (packed g, x) (m, a) e)
    by (Err x) e = absurd (cc)
