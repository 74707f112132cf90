-- The packed word by its seven fields: it has one reading.
use Rattle.std.proofs.Common.{◌≡◌, ◌≢◌, ◌+◌, ◌-◌, ◌*◌, ◌/◌, ◌%◌, ◌^◌, ◌≤◌, ◌<◌, ◌∙◌}
use Rattle.std.specs.Prelude.{◌==◌}
use Rattle.lockword_core.proofs.Words.{ℕ, Bool, true, false, refl, sym, ap, arith, not, Dir, Read, Write, Word, CLOSED}
use Rattle.lockword_core.proofs.Words.{DRAIN, bit, IsWord, packed, waiters_in, lock_of, waiters_of, fields_in}
use Rattle.lockword_core.specs.declared.word.TheConstants.{READ_LOCK, REFERENCE, READ_WAITER}
use Rattle.lockword_core.specs.Word.{lock_unit, waiter_unit, lock_in, references_in}
use Rattle.lockword_core.specs.FieldStep.{with_lock, with_waiters}
use Rattle.lockword_core.proofs.InvariantPreserved.{bit-le}
use Rattle.lockword_core.proofs.FieldSteps.{same_numbers, other_numbers}

-- ---- Reading

-- the number n has these fields
pub record ReadsFields (f : Word) (n : ℕ) : Type 0 where
  pub flag : n % READ_LOCK ≡ bit f.closed
  pub refs : references_in n ≡ f.refs
  pub rlock : lock_in Read n ≡ bit f.rlock
  pub wlock : lock_in Write n ≡ bit f.wlock
  pub rwait : waiters_in Read n ≡ f.rwait
  pub wwait : waiters_in Write n ≡ f.wwait
  pub drain : n / DRAIN ≡ bit f.drain
  pub is_word : n < 2 ^ 64

pub reads_fields : (f : Word) (n : ℕ) → IsWord f → packed f ≡ n → ReadsFields f n
reads_fields f n fits e =
    let a = bit-le f.closed in let b = bit-le f.rlock in let c = bit-le f.wlock in let d = bit-le f.drain in omega arith

pub bit-same : (a b : Bool) → bit a ≡ bit b → a ≡ b
bit-same true true e = refl
bit-same true false e = absurd (omega arith)
bit-same false true e = absurd (omega arith)
bit-same false false e = refl

-- a word has one reading
pub packed-injective : (f g : Word) → IsWord f → IsWord g → packed f ≡ packed g → f ≡ g
packed-injective f g f_fits g_fits e =
    let of_f = reads_fields f (packed f) f_fits refl in
    let of_g = reads_fields g (packed f) g_fits (sym e) in
    let closed : f.closed ≡ g.closed = bit-same _ _ (sym of_f.flag ∙ of_g.flag) in
    let rlock : f.rlock ≡ g.rlock = bit-same _ _ (sym of_f.rlock ∙ of_g.rlock) in
    let wlock : f.wlock ≡ g.wlock = bit-same _ _ (sym of_f.wlock ∙ of_g.wlock) in
    let refs : f.refs ≡ g.refs = sym of_f.refs ∙ of_g.refs in
    let rwait : f.rwait ≡ g.rwait = sym of_f.rwait ∙ of_g.rwait in
    let wwait : f.wwait ≡ g.wwait = sym of_f.wwait ∙ of_g.wwait in
    let drain : f.drain ≡ g.drain = bit-same _ _ (sym of_f.drain ∙ of_g.drain) in
    rw (closed, rlock, wlock, refs, rwait, wwait, drain) refl

pub bit_of : (x : ℕ) → x ≤ 1 → bit (not (x == 0)) ≡ x
bit_of x h = by (x == 0) refl
  where
    by : (b : Bool) → (x == 0) ≡ b → bit (not b) ≡ x
    by true e = sym (same_numbers x 0 e)
    by false e = let ne = other_numbers x 0 e in omega arith

pub flag_of : (x : ℕ) → x ≤ 1 → bit (x == CLOSED) ≡ x
flag_of x h = by (x == CLOSED) refl
  where
    by : (b : Bool) → (x == CLOSED) ≡ b → bit b ≡ x
    by true e = sym (same_numbers x CLOSED e)
    by false e = let ne = other_numbers x CLOSED e in omega arith

pub fields_fit : (n : ℕ) → IsWord (fields_in n)
fields_fit n = omega arith

pub packs_back : (n : ℕ) → n < 2 ^ 64 → packed (fields_in n) ≡ n
packs_back n small =
    let a : bit (n % READ_LOCK == CLOSED) ≡ n % READ_LOCK = flag_of (n % READ_LOCK) (omega arith) in
    let b : bit (not (lock_in Read n == 0)) ≡ lock_in Read n = bit_of (lock_in Read n) (omega arith) in
    let c : bit (not (lock_in Write n == 0)) ≡ lock_in Write n = bit_of (lock_in Write n) (omega arith) in
    let d : bit (n / DRAIN == 1) ≡ n / DRAIN = flag_of (n / DRAIN) (omega arith) in
    omega arith

-- the fields of a packed word are what was packed
pub unpacks : (f : Word) (n : ℕ) → IsWord f → packed f ≡ n → fields_in n ≡ f
unpacks f n fits e = packed-injective _ _ (fields_fit n) fits (packs_back n (reads_fields f n fits e).is_word ∙ sym e)

-- ---- What a step adds to the number

-- the sums of a lock that is taken or given back, in one direction
pub locked_sum : (d : Dir) (f : Word) (n : ℕ) → packed f ≡ n → lock_of d f ≡ false
    → n + REFERENCE + lock_unit d ≡ packed (with_lock d true (f.refs + 1) f)
locked_sum Read f n e unlocked = let none : bit f.rlock ≡ 0 = ap bit unlocked in omega arith
locked_sum Write f n e unlocked = let none : bit f.wlock ≡ 0 = ap bit unlocked in omega arith

pub queued_sum : (d : Dir) (f : Word) (n : ℕ) → packed f ≡ n
    → n + waiter_unit d ≡ packed (with_waiters d (waiters_of d f + 1) f)
queued_sum Read f n e = omega arith
queued_sum Write f n e = omega arith

pub unlocked_sum : (d : Dir) (f : Word) (n : ℕ) → packed f ≡ n → lock_of d f ≡ true → f.refs ≢ 0
    → n - REFERENCE - lock_unit d ≡ packed (with_lock d false (f.refs - 1) f)
unlocked_sum Read f n e locked some = let one : bit f.rlock ≡ 1 = ap bit locked in omega arith
unlocked_sum Write f n e locked some = let one : bit f.wlock ≡ 1 = ap bit locked in omega arith

pub owing_sum : (d : Dir) (f : Word) (n : ℕ) → packed f ≡ n → lock_of d f ≡ true → f.refs ≢ 0 → waiters_of d f ≢ 0
    → n - REFERENCE - lock_unit d - waiter_unit d
    ≡ packed (with_lock d false (f.refs - 1) (with_waiters d (waiters_of d f - 1) f))
owing_sum Read f n e locked some waits = let one : bit f.rlock ≡ 1 = ap bit locked in omega arith
owing_sum Write f n e locked some waits = let one : bit f.wlock ≡ 1 = ap bit locked in omega arith

pub close_sum : (f : Word) (n : ℕ) → IsWord f → packed f ≡ n → bit f.closed ≡ 0 → waiters_in Read n ≡ f.rwait
    → waiters_in Write n ≡ f.wwait
    → n % READ_WAITER + n / DRAIN * DRAIN + REFERENCE + CLOSED
    ≡ packed (record f { closed = true; refs = f.refs + 1; rwait = 0; wwait = 0 })
close_sum f n fits e flag readers writers =
    let b = bit-le f.rlock in let c = bit-le f.wlock in let d = bit-le f.drain in omega arith

pub drain_sum : (f : Word) (n : ℕ) → IsWord f → packed f ≡ n
    → n % READ_WAITER + DRAIN ≡ packed (record f { drain = true; rwait = 0; wwait = 0 })
drain_sum f n fits e =
    let a = bit-le f.closed in let b = bit-le f.rlock in let c = bit-le f.wlock in let d = bit-le f.drain in omega arith
