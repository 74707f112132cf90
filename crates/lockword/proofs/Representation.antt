-- The rule of the table as arithmetic, and back.
use Rattle.std.proofs.Common.{◌≡◌, ◌≢◌, ◌+◌, ◌∙◌, ⊎_elim}
use Rattle.lockword.proofs.Words.{ℕ, Bool, true, List, length, get_or, set, refl, sym, subst, arith, length-set}
use Rattle.lockword.proofs.Words.{get_or-set_other, get_or-set_same, Option, some, get_elem?, State, Dir, Read, Write}
use Rattle.lockword.proofs.Words.{Stake, signals_in, with_signals, bit, Census, locks, number, encoded, IsBalanced}
use Rattle.lockword.proofs.Words.{balance_of, LocalView, Half, stakes_of, semaphore, slot_of, half_home, SawRightly}
use Rattle.lockword.proofs.Words.{Represents}
use Rattle.atomic_table.proofs.Lists.{at_set}
use Rattle.lockword_core.specs.declared.signals.Signals.{Signals}
use Rattle.lockword_core.specs.LockState.{count}
use Rattle.lockword_core.proofs.InvariantPreserved.{consistent_of, encoded_of}
use Rattle.lockword.specs.LocalView.{takers}

-- the abstract state behind these views, with the flag, the mark and the signals of another
abbrev pub seated : List LocalView → Census → Census
seated views c = record c { stakes = stakes_of views }

-- what is so of both directions
pub both : (P : Dir → Type 0) → P Read → P Write → (d : Dir) → P d
both P reads writes Read = reads
both P reads writes Write = writes

-- ---- The words of the semaphores

pub not_state : (d : Dir) → semaphore d ≢ 0
not_state Read e = omega arith
not_state Write e = omega arith

pub not_done : (d : Dir) → semaphore d ≢ 3
not_done Read e = omega arith
not_done Write e = omega arith

pub semaphore_after : (d e : Dir) (words : List ℕ) (m : ℕ) (signals : Signals) → length words ≡ 4
    → get_or words (semaphore e) 0 ≡ signals_in e signals
    → get_or (set words (semaphore d) m) (semaphore e) 0 ≡ signals_in e (with_signals d m signals)
semaphore_after Read Read words m signals wide was = get_or-set_same words 1 m 0 (omega arith)
semaphore_after Write Write words m signals wide was = get_or-set_same words 2 m 0 (omega arith)
semaphore_after Read Write words m signals wide was = get_or-set_other words 1 2 m 0 (omega arith) ∙ was
semaphore_after Write Read words m signals wide was = get_or-set_other words 2 1 m 0 (omega arith) ∙ was

-- ---- The rule, on its parts

-- the half of a direction is at home, with the holder of its lock, with the `Last` that took it, or given away for good
abbrev pub IsInOnePlace : {R W : Type 0} → Dir → List (Option (Half R W)) → Census → ℕ → Type 0
IsInOnePlace d homes c taken =
    half_home d (get_elem? homes (slot_of d)) + number (locks d) c + taken + bit c.destroyed ≡ 1

-- holders of the lock and takers that are as many as before
pub recounted : {R W : Type 0} (d : Dir) (homes : List (Option (Half R W))) (c : Census) (ys : List Stake) (k j : ℕ)
    → count (locks d) ys ≡ number (locks d) c → k ≡ j
    → IsInOnePlace d homes c j → IsInOnePlace d homes (record c { stakes = ys }) k
recounted d homes c ys k j locked took was = omega arith

-- what all seats saw is so, once one of them has another view
pub saw_rightly : (views : List LocalView) (id : ℕ) (w : LocalView) (b c : Census)
    → ((i : ℕ) (v : LocalView) → get_elem? views i ≡ some v → SawRightly b v)
    → (b.closed ≡ true → c.closed ≡ true) → (b.draining ≡ true → c.draining ≡ true)
    → (b.destroyed ≡ true → c.destroyed ≡ true) → SawRightly c w
    → (i : ℕ) (v : LocalView) → get_elem? (set views id w) i ≡ some v → SawRightly c v
saw_rightly views id w b c saw closes drains ends so i v at =
    ⊎_elim (λ here. subst (λ (x : LocalView). SawRightly c x) here.1 so)
    (λ there. let was = saw i v there.1 in
    record {
      closed = λ e. closes (was.closed e);
      draining = λ e. drains (was.draining e);
      done = λ e. ends (was.done e);
    })
    (at_set views id i w v at)

module _ {R W : Type 0} where
  -- words, homes and views meet the rule, with this abstract state and this state word
  pub record Fits (words : List ℕ) (homes : List (Option (Half R W))) (views : List LocalView) (c : Census)
      (n : ℕ) : Type 0 where
    pub wide : length words ≡ 4
    pub deep : length homes ≡ 2
    pub state : get_or words 0 0 ≡ n
    pub semaphores : (d : Dir) → get_or words (semaphore d) 0 ≡ signals_in d c.signals
    pub done : get_or words 3 0 ≡ bit c.destroyed
    pub stakes : c.stakes ≡ stakes_of views
    pub balance : IsBalanced c n
    pub halves : (d : Dir) → IsInOnePlace d homes c (takers views)
    pub seen : (i : ℕ) (v : LocalView) → get_elem? views i ≡ some v → SawRightly c v

  pub represents : (words : List ℕ) (homes : List (Option (Half R W))) (views : List LocalView) (c : Census) (n : ℕ)
      → Fits words homes views c n → Represents record { words = words; homes = homes; views = views }
  represents words homes views c n f =
      record {
        four_words = f.wide;
        two_slots = f.deep;
        census = c;
        consistent = consistent_of c n f.balance;
        stakes = f.stakes;
        state_word = f.state ∙ encoded_of c n f.balance;
        semaphores = f.semaphores;
        done_word = f.done;
        halves = f.halves;
        seen = f.seen;
      }

  -- the abstract state, whose stakes are read from the views
  abbrev pub present : (s : State (Half R W) LocalView) → Represents s → Census
  present s r = seated s.views r.census

  pub fits : (s : State (Half R W) LocalView) (r : Represents s)
      → Fits s.words s.homes s.views (present s r) (get_or s.words 0 0)
  fits s r =
      let c = r.census in
      record {
        wide = r.four_words;
        deep = r.two_slots;
        state = refl;
        semaphores = r.semaphores;
        done = r.done_word;
        stakes = refl;
        balance = subst (λ (n : ℕ). IsBalanced (present s r) n) (sym r.state_word)
            (subst (λ (ys : List Stake). IsBalanced (record c { stakes = ys }) (encoded c)) r.stakes
            (balance_of c r.consistent));
        halves = λ d. subst
            (λ (ys : List Stake). IsInOnePlace d s.homes (record c { stakes = ys }) (takers s.views)) r.stakes
            (r.halves d);
        seen = λ i v at. let saw = r.seen i v at in record { closed = saw.closed; draining = saw.draining; done = saw.done };
      }

  -- a new state word, and a new view of one seat
  pub on_state : (words : List ℕ) (homes homes' : List (Option (Half R W))) (views : List LocalView) (c : Census)
      (closed draining : Bool) (n m id : ℕ) (w : LocalView)
      → Fits words homes views c n → length homes' ≡ 2
      → let next = record (seated (set views id w) c) { closed = closed; draining = draining } in
      IsBalanced next m
      → ((d : Dir) → IsInOnePlace d homes' next (takers (set views id w)))
      → (c.closed ≡ true → closed ≡ true) → (c.draining ≡ true → draining ≡ true) → SawRightly next w
      → Fits (set words 0 m) homes' (set views id w) next m
  on_state words homes homes' views c closed draining n m id w f deep balance halves grows drains saw =
      let wide = f.wide in
      record {
        wide = length-set words 0 m ∙ f.wide;
        deep = deep;
        state = get_or-set_same words 0 m 0 (omega arith);
        semaphores = λ d. get_or-set_other words 0 (semaphore d) m 0 (not_state d) ∙ f.semaphores d;
        done = get_or-set_other words 0 3 m 0 (omega arith) ∙ f.done;
        stakes = refl;
        balance = balance;
        halves = halves;
        seen = saw_rightly views id w c
            (record (seated (set views id w) c) { closed = closed; draining = draining }) f.seen grows drains
            (λ e. e) saw;
      }

  -- a new done word, and a new view of one seat
  pub on_done : (words : List ℕ) (homes homes' : List (Option (Half R W))) (views : List LocalView) (c : Census)
      (destroyed : Bool) (n id : ℕ) (w : LocalView)
      → Fits words homes views c n → length homes' ≡ 2
      → let next = record (seated (set views id w) c) { destroyed = destroyed } in
      IsBalanced next n
      → ((d : Dir) → IsInOnePlace d homes' next (takers (set views id w)))
      → (c.destroyed ≡ true → destroyed ≡ true) → SawRightly next w
      → Fits (set words 3 (bit destroyed)) homes' (set views id w) next n
  on_done words homes homes' views c destroyed n id w f deep balance halves grows saw =
      let wide = f.wide in let m = bit destroyed in
      record {
        wide = length-set words 3 m ∙ f.wide;
        deep = deep;
        state = get_or-set_other words 3 0 m 0 (omega arith) ∙ f.state;
        semaphores = λ d. get_or-set_other words 3 (semaphore d) m 0 (not_done d) ∙ f.semaphores d;
        done = get_or-set_same words 3 m 0 (omega arith);
        stakes = refl;
        balance = balance;
        halves = halves;
        seen = saw_rightly views id w c (record (seated (set views id w) c) { destroyed = destroyed }) f.seen
            (λ e. e) (λ e. e) grows saw;
      }

  -- a new semaphore word, and a new view of one seat
  pub on_signals : (d : Dir) (words : List ℕ) (homes : List (Option (Half R W))) (views : List LocalView) (c : Census)
      (n m id : ℕ) (w : LocalView)
      → Fits words homes views c n
      → let next = record (seated (set views id w) c) { signals = with_signals d m c.signals } in
      IsBalanced next n
      → ((e : Dir) → IsInOnePlace e homes next (takers (set views id w)))
      → SawRightly next w
      → Fits (set words (semaphore d) m) homes (set views id w) next n
  on_signals d words homes views c n m id w f balance halves saw =
      record {
        wide = length-set words (semaphore d) m ∙ f.wide;
        deep = f.deep;
        state = get_or-set_other words (semaphore d) 0 m 0 (λ e. not_state d (sym e)) ∙ f.state;
        semaphores = λ e. semaphore_after d e words m c.signals f.wide (f.semaphores e);
        done = get_or-set_other words (semaphore d) 3 m 0 (λ e. not_done d (sym e)) ∙ f.done;
        stakes = refl;
        balance = balance;
        halves = halves;
        seen = saw_rightly views id w c
            (record (seated (set views id w) c) { signals = with_signals d m c.signals }) f.seen (λ e. e) (λ e. e)
            (λ e. e) saw;
      }
