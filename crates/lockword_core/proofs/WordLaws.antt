-- The word counts the stakes, and decides.
use Rattle.std.proofs.Common.{◌≡◌, ◌≤◌, ◌∙◌}
use Rattle.std.specs.Prelude.{if◌then◌else◌}
use Rattle.lockword_core.proofs.Words.{ℕ, Bool, true, false, List, refl, sym, ap, arith, subst, Result, Ok, Dir, Read}
use Rattle.lockword_core.proofs.Words.{Write, Stake, Op, Answer, Word, Kind, After, Refused, IsWord, packed, LockState}
use Rattle.lockword_core.proofs.Words.{Census, census, references, locks, number, pending, encoded, IsConsistent}
use Rattle.lockword_core.proofs.Words.{IsConsistentCensus, IsCounted, ChangesOneStake, Change, Outcome, refused, moved}
use Rattle.lockword_core.proofs.Words.{allows, outcome, allowed_outcome, changed, op_of, stepped_word}
use Rattle.lockword_core.specs.declared.stake.Answer.TheVariants as answer
use Rattle.lockword_core.specs.declared.transition.Kind.TheVariants as kind
use Rattle.lockword_core.specs.Laws.{CountsStakes}
use Rattle.lockword_core.proofs.BalanceLemmas.{IsBalanced, ReadsAs, reads_as}
use Rattle.lockword_core.proofs.InvariantPreserved.{balance_of, encoded_of}
use Rattle.lockword_core.proofs.WordRefines.{StepIs, step_is, same_pair}
use Rattle.lockword_core.proofs.WordFields.{reads_fields, bit-same}
use Rattle.lockword_core.proofs.StateLemmas.{stays_consistent, KeepsConsistent}

-- ---- The word counts the stakes

pub counts_stakes : (f : Word) (s : LockState) → IsConsistent s → IsWord f → packed f ≡ encoded (census s)
    → CountsStakes f s
counts_stakes f s good fits e =
    let r = reads_fields f (encoded (census s)) fits e in
    let c = reads_as (census s) (encoded (census s)) (balance_of (census s) good.counts) in
    record {
      flag = bit-same _ _ (sym r.flag ∙ c.flag);
      read_lock = sym r.rlock ∙ c.lock Read;
      write_lock = sym r.wlock ∙ c.lock Write;
      references = sym r.refs ∙ c.refs;
      read_waiters = sym r.rwait ∙ c.waiters Read;
      write_waiters = sym r.wwait ∙ c.waiters Write;
      drain = bit-same _ _ (sym r.drain ∙ c.drain);
    }

pub one_lock : (s : LockState) (d : Dir) → IsConsistent s → number (locks d) (census s) ≤ 1
one_lock s Read good = good.counts.reading.one_lock
one_lock s Write good = good.counts.writing.one_lock

-- ---- The word decides

-- both censuses have the counts that the word's fields are
record IsAlike (b c : Census) : Type 0 where
  flag : b.closed ≡ c.closed
  drain : b.draining ≡ c.draining
  refs : number references b ≡ number references c
  lock : (d : Dir) → number (locks d) b ≡ number (locks d) c
  waiters : (d : Dir) → pending d b ≡ pending d c

alike : (b c : Census) (n : ℕ) → ReadsAs b n → ReadsAs c n → IsAlike b c
alike b c n r s =
    record {
      flag = bit-same _ _ (sym r.flag ∙ s.flag);
      drain = bit-same _ _ (sym r.drain ∙ s.drain);
      refs = sym r.refs ∙ s.refs;
      lock = λ d. sym (r.lock d) ∙ s.lock d;
      waiters = λ d. sym (r.waiters d) ∙ s.waiters d;
    }

same_allowed : (b c : Census) (own : Stake) (k : Kind) → IsAlike b c
    → allowed_outcome b own (op_of k) ≡ allowed_outcome c own (op_of k)
same_allowed b c own kind.Incref a = cc (a.flag, a.drain, a.refs)
same_allowed b c own kind.Decref a = cc (a.flag, a.refs)
same_allowed b c own (kind.Lock d) a = cc (a.flag, a.drain, a.refs, a.lock d, a.waiters d)
same_allowed b c own (kind.Unlock d) a = cc (a.flag, a.refs, a.waiters d)
same_allowed b c own kind.Close a = cc (a.flag, a.refs, a.waiters Read, a.waiters Write)
same_allowed b c own kind.Drain a = cc (a.flag, a.drain, a.waiters Read, a.waiters Write)

balance_at : (c : Census) (n : ℕ) → IsConsistentCensus c → encoded c ≡ n → IsBalanced c n
balance_at c n good e = subst (λ (m : ℕ). IsBalanced c m) e (balance_of c good)

pub same_outcome : (b c : Census) (own : Stake) (k : Kind) → IsConsistentCensus b → IsConsistentCensus c
    → encoded b ≡ encoded c → outcome b own (op_of k) ≡ outcome c own (op_of k)
same_outcome b c own k good_b good_c e =
    let a = alike b c (encoded c) (reads_as b (encoded c) (balance_at b (encoded c) good_b e))
    (reads_as c (encoded c) (balance_of c good_c)) in
    ap (λ (o : Outcome). if allows own (op_of k) then o else refused answer.Misuse) (same_allowed b c own k a)

allowed_move : (t : Bool) (o : Outcome) (a : Answer) (new : Stake) (change : Change)
    → (if t then o else refused answer.Misuse) ≡ moved a new change → t ≡ true
allowed_move true o a new change e = refl
allowed_move false o a new change e = absurd (cc)

pub counted_by : (c : Census) (own : Stake) (stakes : List Stake) (new : Stake)
    → ChangesOneStake c.stakes own stakes new → IsCounted c own
counted_by c own stakes new one = record { at_least = λ what. let before = one.counted_before what in omega arith }

-- the word after a move is what the step on the word gave
moved_word : (c : Census) (own : Stake) (k : Kind) (r : Result (ℕ × After) Refused) (a : Answer) (new : Stake)
    (change : Change) (stakes : List Stake)
    → StepIs c own k (moved a new change) r → ChangesOneStake c.stakes own stakes new
    → (m : ℕ) × (gain : After) × (r ≡ Ok (m, gain)) × (m ≡ encoded (changed c stakes change))
moved_word c own k r a new change stakes (m, gain, ok, same, balance) one =
    (m, gain, ok, encoded_of (changed c stakes change) m (balance stakes one))

abbrev ok_of : ℕ → After → Result (ℕ × After) Refused
ok_of n gain = Ok (n, gain)

same_number : (m n : ℕ) (a b : After) → ok_of m a ≡ ok_of n b → m ≡ n
same_number m n a b e = ap (λ (p : ℕ × After). p.0) (same_pair (m, a) (n, b) e)

both_words : (r : Result (ℕ × After) Refused) (x y : ℕ) → (m : ℕ) × (gain : After) × (r ≡ Ok (m, gain)) × (m ≡ x)
    → (m : ℕ) × (gain : After) × (r ≡ Ok (m, gain)) × (m ≡ y) → x ≡ y
both_words r x y (m, gain, ok, is) (n, gain', ok', is') = sym is ∙ same_number m n gain gain' (sym ok ∙ ok') ∙ is'

pub same_word : (b c : Census) (own : Stake) (k : Kind) (a : Answer) (new : Stake) (change : Change)
    (of_b of_c : List Stake) → IsConsistentCensus b → IsConsistentCensus c → encoded b ≡ encoded c
    → outcome b own (op_of k) ≡ moved a new change → ChangesOneStake b.stakes own of_b new
    → ChangesOneStake c.stakes own of_c new → encoded (changed b of_b change) ≡ encoded (changed c of_c change)
same_word b c own k a new change of_b of_c good_b good_c e is one_b one_c =
    let may : allows own (op_of k) ≡ true =
    allowed_move (allows own (op_of k)) (allowed_outcome b own (op_of k)) a new change is in
    let is_c : outcome c own (op_of k) ≡ moved a new change = sym (same_outcome b c own k good_b good_c e) ∙ is in
    let r : Result (ℕ × After) Refused = stepped_word (encoded c) k in
    both_words r _ _
    (moved_word b own k r a new change of_b
    (subst (λ (o : Outcome). StepIs b own k o r) is
    (step_is b own k (encoded c) (balance_at b (encoded c) good_b e) (counted_by b own of_b new one_b) may)) one_b)
    (moved_word c own k r a new change of_c
    (subst (λ (o : Outcome). StepIs c own k o r) is_c
    (step_is c own k (encoded c) (balance_of c good_c) (counted_by c own of_c new one_c) may)) one_c)

pub moves_consistently : (c : Census) (own : Stake) (o : Op) (a : Answer) (new : Stake) (change : Change)
    (stakes : List Stake) → IsConsistentCensus c → outcome c own o ≡ moved a new change
    → ChangesOneStake c.stakes own stakes new → IsConsistentCensus (changed c stakes change)
moves_consistently c own o a new change stakes good is one =
    (subst (λ (x : Outcome). KeepsConsistent c own x) is
    (stays_consistent c own o good (counted_by c own stakes new one))) stakes one
