-- The first bytes of a stream have one answer.
use Rattle.std.proofs.Common.{◌≡◌, ◌∙◌, sym, ap, refl, subst, ℕ, ◌+◌, ◌≤◌, ◌<◌, List, ◌∷◌, ◌++◌, length, get_or, take, drop}
use Rattle.std.proofs.Common.{Bool, true, false, Some, None, arith, inl, inr, take-append-drop}
use Rattle.std.proofs.lemmas.Bool.{cases_lt}
use Rattle.std.proofs.lemmas.Bool.Decides.{nat_tests}
use Rattle.std.specs.Prelude.{◌⊎◌, ◌==◌, nat_lt, slice_range, if◌then◌else◌}
use Rattle.proxy_header.specs.Block.{is_family, least_block, local_command, proxy_command}
use Rattle.proxy_header.specs.Block.{IsHead, IsVersion2, SaysBlock, block_size, command_in, family_in, head_fault, signature}
use Rattle.proxy_header.specs.HeaderReading.{Agrees, BeginsWith, EndsBadly, IsAnswer, IsBegun, IsBegunVersion1, IsBegunVersion2}
use Rattle.proxy_header.specs.HeaderReading.{IsEndless, IsFaulty, word}
use Rattle.proxy_header.specs.Line.{IsEnd, IsVersion1, NoEndBelow, SpellsLine}
use Rattle.proxy_header.specs.declared.header_reading.Decoded.{Decoded}
use Rattle.proxy_header.specs.declared.header_reading.Decoded.TheVariants.{Whole, More, Fault}
use Rattle.proxy_header.specs.declared.fault.HeaderFault.{HeaderFault}
use Rattle.proxy_header.specs.declared.fault.HeaderFault.TheVariants as faults
use Rattle.proxy_header.specs.declared.header.Header.{Header}
use Rattle.proxy_header.proofs.Blocks.{one_block}
use Rattle.proxy_header.proofs.Fronts.{agrees_from, end_within, head_agrees, no_both}
use Rattle.proxy_header.proofs.Lines.{one_line, spelled_word}

-- ---- Which version the bytes are of

version1_agrees : (bytes : List ℕ) (size : ℕ) (said : Header) → IsVersion1 bytes size said → Agrees bytes word
version1_agrees bytes size said h =
    let spelled = spelled_word (take h.place bytes) said h.says in
    let front : bytes ≡ (word ++ spelled.0) ++ drop h.place bytes =
    sym (take-append-drop h.place bytes) ∙ ap (λ (t : List ℕ). t ++ drop h.place bytes) spelled.1 in
    agrees_from bytes word (spelled.0 ++ drop h.place bytes) front

version1_there : (bytes : List ℕ) (size : ℕ) (said : Header) → IsVersion1 bytes size said → 2 ≤ length bytes
version1_there bytes size said h = let within = end_within bytes h.place h.ended in omega arith

two_ones : (bytes : List ℕ) (n m : ℕ) (a b : Header) → IsVersion2 bytes n a → IsVersion1 bytes m b → ⊥
two_ones bytes n m a b h k =
    no_both bytes (head_agrees bytes h.head) (version1_agrees bytes m b k)
    (let there = version1_there bytes m b k in omega arith)

-- ---- One header

-- both places are the first
one_place : (bytes : List ℕ) (p q : ℕ) → NoEndBelow bytes p → IsEnd bytes p → NoEndBelow bytes q → IsEnd bytes q → p ≡ q
one_place bytes p q none here none' here' = by_cases (cases_lt p q) (cases_lt q p)
  where
    by_cases : (p < q) ⊎ (q ≤ p) → (q < p) ⊎ (p ≤ q) → p ≡ q
    by_cases (inl before) other = absurd (none' p before here)
    by_cases (inr le) (inl before) = absurd (none q before here')
    by_cases (inr le) (inr ge) = omega arith

one_version2 : (bytes : List ℕ) (n m : ℕ) (a b : Header) → IsVersion2 bytes n a → IsVersion2 bytes m b → (n ≡ m) × (a ≡ b)
one_version2 bytes n m a b h k =
    let same : n ≡ m = h.ends ∙ sym k.ends in (
      same,
      one_block (command_in bytes) (family_in bytes) (slice_range bytes 16 m) a b
          (subst (λ (s : ℕ). SaysBlock (command_in bytes) (family_in bytes) (slice_range bytes 16 s) a) same h.says) k.says,
    )

one_version1 : (bytes : List ℕ) (n m : ℕ) (a b : Header) → IsVersion1 bytes n a → IsVersion1 bytes m b → (n ≡ m) × (a ≡ b)
one_version1 bytes n m a b h k =
    let same : h.place ≡ k.place = one_place bytes h.place k.place h.first h.ended k.first k.ended in
    let ends = h.ends in
    let ends' = k.ends in (
      omega arith,
      one_line (take k.place bytes) a b
          (subst (λ (s : ℕ). SpellsLine (take s bytes) a) same h.says) k.says,
    )

pub one_header : (bytes : List ℕ) (n m : ℕ) (a b : Header) → BeginsWith bytes n a → BeginsWith bytes m b → (n ≡ m) × (a ≡ b)
one_header bytes n m a b (inl h) (inl k) = one_version2 bytes n m a b h k
one_header bytes n m a b (inr h) (inr k) = one_version1 bytes n m a b h k
one_header bytes n m a b (inl h) (inr k) = absurd (two_ones bytes n m a b h k)
one_header bytes n m a b (inr h) (inl k) = absurd (two_ones bytes m n b a k h)

-- ---- Kinds of faults

-- what a fault is found by
data Kind : Type 0 where
  neither head endless bad : Kind

abbrev IsKind : List ℕ → HeaderFault → Kind → Type 0
IsKind bytes fault neither = (fault ≡ faults.NoHeader) × (Agrees bytes signature → ⊥) × (Agrees bytes word → ⊥)
IsKind bytes fault head = IsHead bytes × (head_fault (command_in bytes) (family_in bytes) (block_size bytes) ≡ Some fault)
IsKind bytes fault endless = (fault ≡ faults.NoEnd) × IsEndless bytes
IsKind bytes fault bad = (fault ≡ faults.BadLine) × ((place : ℕ) × EndsBadly bytes place)

kind_of : (bytes : List ℕ) (fault : HeaderFault) → IsFaulty bytes fault → (kind : Kind) × IsKind bytes fault kind
kind_of bytes faults.NoHeader h = (neither, (refl, h.0, h.1))
kind_of bytes faults.Command h = (head, h)
kind_of bytes faults.Family h = (head, h)
kind_of bytes faults.TooLong h = (head, h)
kind_of bytes faults.TooShort h = (head, h)
kind_of bytes faults.NoEnd h = (endless, (refl, h))
kind_of bytes faults.BadLine h = (bad, (refl, h))

-- a head, and a line of version 1, can't both be
head_is_no_line : (bytes : List ℕ) → IsHead bytes → Agrees bytes word → ⊥
head_is_no_line bytes h line = no_both bytes (head_agrees bytes h) line (let there = h.there in omega arith)

endless_is_not_bad : (bytes : List ℕ) (place : ℕ) → IsEndless bytes → EndsBadly bytes place → ⊥
endless_is_not_bad bytes place h k = h.endless place k.short k.ended

one_kind : (bytes : List ℕ) (f g : HeaderFault) (x y : Kind) → IsKind bytes f x → IsKind bytes g y → f ≡ g
one_kind bytes f g neither neither h k = h.0 ∙ sym k.0
one_kind bytes f g head head h k =
    let both : Some f ≡ Some g = sym h.1 ∙ k.1 in
    cc
one_kind bytes f g endless endless h k = h.0 ∙ sym k.0
one_kind bytes f g bad bad h k = h.0 ∙ sym k.0
one_kind bytes f g neither head h k = absurd (h.1 (head_agrees bytes k.0))
one_kind bytes f g head neither h k = absurd (k.1 (head_agrees bytes h.0))
one_kind bytes f g neither endless h k = absurd (h.2 k.1.begun)
one_kind bytes f g endless neither h k = absurd (k.2 h.1.begun)
one_kind bytes f g neither bad h k = absurd (h.2 k.1.1.begun)
one_kind bytes f g bad neither h k = absurd (k.2 h.1.1.begun)
one_kind bytes f g head endless h k = absurd (head_is_no_line bytes h.0 k.1.begun)
one_kind bytes f g endless head h k = absurd (head_is_no_line bytes k.0 h.1.begun)
one_kind bytes f g head bad h k = absurd (head_is_no_line bytes h.0 k.1.1.begun)
one_kind bytes f g bad head h k = absurd (head_is_no_line bytes k.0 h.1.1.begun)
one_kind bytes f g endless bad h k = absurd (endless_is_not_bad bytes k.1.0 h.1 k.1.1)
one_kind bytes f g bad endless h k = absurd (endless_is_not_bad bytes h.1.0 k.1 h.1.1)

pub one_fault : (bytes : List ℕ) (f g : HeaderFault) → IsFaulty bytes f → IsFaulty bytes g → f ≡ g
one_fault bytes f g h k =
    let x = kind_of bytes f h in
    let y = kind_of bytes g k in
    one_kind bytes f g x.0 y.0 x.1 y.1

-- ---- Never two

header_not_begun : (bytes : List ℕ) (n : ℕ) (said : Header) → BeginsWith bytes n said → IsBegun bytes → ⊥
header_not_begun bytes n said (inl h) (inl (inl k)) = let there = h.head.there in let short = k.1 in omega arith
header_not_begun bytes n said (inl h) (inl (inr k)) =
    let there = h.there in let ends = h.ends in let short = k.2 in omega arith
header_not_begun bytes n said (inl h) (inr k) = head_is_no_line bytes h.head k.begun
header_not_begun bytes n said (inr h) (inl (inl k)) =
    no_both bytes k.0 (version1_agrees bytes n said h) (let there = version1_there bytes n said h in omega arith)
header_not_begun bytes n said (inr h) (inl (inr k)) = head_is_no_line bytes k.0 (version1_agrees bytes n said h)
header_not_begun bytes n said (inr h) (inr k) = k.endless h.place h.ended

header_no_kind : (bytes : List ℕ) (n : ℕ) (said : Header) (f : HeaderFault) (x : Kind) → BeginsWith bytes n said
    → IsKind bytes f x → ⊥
header_no_kind bytes n said f neither (inl h) k = k.1 (head_agrees bytes h.head)
header_no_kind bytes n said f neither (inr h) k = k.2 (version1_agrees bytes n said h)
header_no_kind bytes n said f head (inl h) k = let both : None ≡ Some f = sym h.good ∙ k.1 in absurd (cc)
header_no_kind bytes n said f head (inr h) k = head_is_no_line bytes k.0 (version1_agrees bytes n said h)
header_no_kind bytes n said f endless (inl h) k = head_is_no_line bytes h.head k.1.begun
header_no_kind bytes n said f endless (inr h) k =
    let ends = h.ends in let short = h.short in k.1.endless h.place (omega arith) h.ended
header_no_kind bytes n said f bad (inl h) k = head_is_no_line bytes h.head k.1.1.begun
header_no_kind bytes n said f bad (inr h) k =
    let line = k.1.1 in
    let same : h.place ≡ k.1.0 = one_place bytes h.place k.1.0 h.first h.ended line.first line.ended in
    line.unspelled said (subst (λ (s : ℕ). SpellsLine (take s bytes) said) same h.says)

begun_no_kind : (bytes : List ℕ) (f : HeaderFault) (x : Kind) → IsBegun bytes → IsKind bytes f x → ⊥
begun_no_kind bytes f neither (inl (inl h)) k = k.1 h.0
begun_no_kind bytes f neither (inl (inr h)) k = k.1 (head_agrees bytes h.0)
begun_no_kind bytes f neither (inr h) k = k.2 h.begun
begun_no_kind bytes f head (inl (inl h)) k = let there = k.0.there in let short = h.1 in omega arith
begun_no_kind bytes f head (inl (inr h)) k = let both : None ≡ Some f = sym h.1 ∙ k.1 in absurd (cc)
begun_no_kind bytes f head (inr h) k = head_is_no_line bytes k.0 h.begun
begun_no_kind bytes f endless (inl (inl h)) k = let long = k.1.long in no_both bytes h.0 k.1.begun (omega arith)
begun_no_kind bytes f endless (inl (inr h)) k = head_is_no_line bytes h.0 k.1.begun
begun_no_kind bytes f endless (inr h) k = let long = k.1.long in let short = h.short in omega arith
begun_no_kind bytes f bad (inl (inl h)) k =
    let line = k.1.1 in
    let within = end_within bytes k.1.0 line.ended in
    no_both bytes h.0 line.begun (omega arith)
begun_no_kind bytes f bad (inl (inr h)) k = head_is_no_line bytes h.0 k.1.1.begun
begun_no_kind bytes f bad (inr h) k = h.endless k.1.0 k.1.1.ended

header_not_faulty : (bytes : List ℕ) (n : ℕ) (said : Header) (f : HeaderFault) → BeginsWith bytes n said
    → IsFaulty bytes f → ⊥
header_not_faulty bytes n said f h k = let x = kind_of bytes f k in header_no_kind bytes n said f x.0 h x.1

begun_not_faulty : (bytes : List ℕ) (f : HeaderFault) → IsBegun bytes → IsFaulty bytes f → ⊥
begun_not_faulty bytes f h k = let x = kind_of bytes f k in begun_no_kind bytes f x.0 h x.1

same_whole : (a b : Header) (n m : ℕ) → n ≡ m → a ≡ b → Whole a n ≡ Whole b m
same_whole a b n m e f = cc

pub one_answer : (bytes : List ℕ) (x y : Decoded) → IsAnswer bytes x → IsAnswer bytes y → x ≡ y
one_answer bytes (Whole a n) (Whole b m) h k =
    let same = one_header bytes n m a b h k in same_whole a b n m same.0 same.1
one_answer bytes More More h k = refl
one_answer bytes (Fault f) (Fault g) h k = ap Fault (one_fault bytes f g h k)
one_answer bytes (Whole a n) More h k = absurd (header_not_begun bytes n a h k)
one_answer bytes More (Whole b m) h k = absurd (header_not_begun bytes m b k h)
one_answer bytes (Whole a n) (Fault g) h k = absurd (header_not_faulty bytes n a g h k)
one_answer bytes (Fault f) (Whole b m) h k = absurd (header_not_faulty bytes m b f k h)
one_answer bytes More (Fault g) h k = absurd (begun_not_faulty bytes g h k)
one_answer bytes (Fault f) More h k = absurd (begun_not_faulty bytes f k h)

-- ---- What a head is told

-- a fault of a head
abbrev is_of_head : HeaderFault → Bool
is_of_head faults.Command = true
is_of_head faults.Family = true
is_of_head faults.TooLong = true
is_of_head faults.TooShort = true
is_of_head _ = false

of_tests : (local long proxy known short : Bool) (fault : HeaderFault)
    → (if local then (if long then Some faults.TooLong else None)
    else (if proxy then (if known then (if long then Some faults.TooLong
    else (if short then Some faults.TooShort else None)) else Some faults.Family) else Some faults.Command)) ≡ Some fault
    → is_of_head fault ≡ true
of_tests true true p k s fault e = let same : faults.TooLong ≡ fault = cc in ap is_of_head (sym same)
of_tests true false p k s fault e = absurd (cc)
of_tests false true true true s fault e = let same : faults.TooLong ≡ fault = cc in ap is_of_head (sym same)
of_tests false false true true true fault e = let same : faults.TooShort ≡ fault = cc in ap is_of_head (sym same)
of_tests false false true true false fault e = absurd (cc)
of_tests false l true false s fault e = let same : faults.Family ≡ fault = cc in ap is_of_head (sym same)
of_tests false l false k s fault e = let same : faults.Command ≡ fault = cc in ap is_of_head (sym same)

head_fault_is_of_head : (c f size : ℕ) (fault : HeaderFault) → head_fault c f size ≡ Some fault → is_of_head fault ≡ true
unfolding head_fault
head_fault_is_of_head c f size fault e =
    of_tests (c == local_command) (nat_lt 520 size) (c == proxy_command) (is_family f) (nat_lt size (least_block f)) fault e

pub head_is_faulty : (bytes : List ℕ) (fault : HeaderFault) → IsHead bytes
    → head_fault (command_in bytes) (family_in bytes) (block_size bytes) ≡ Some fault → IsFaulty bytes fault
head_is_faulty bytes fault there e =
    by_fault fault e (head_fault_is_of_head (command_in bytes) (family_in bytes) (block_size bytes) fault e)
  where
    by_fault : (fault : HeaderFault) → head_fault (command_in bytes) (family_in bytes) (block_size bytes) ≡ Some fault
        → is_of_head fault ≡ true → IsFaulty bytes fault
    by_fault faults.Command e is = (there, e)
    by_fault faults.Family e is = (there, e)
    by_fault faults.TooLong e is = (there, e)
    by_fault faults.TooShort e is = (there, e)
    by_fault faults.NoHeader e is = absurd (cc)
    by_fault faults.NoEnd e is = absurd (cc)
    by_fault faults.BadLine e is = absurd (cc)

-- ---- How long a beginning may be

short_of_tests : (local long proxy known short : Bool)
    → (if local then (if long then Some faults.TooLong else None)
    else (if proxy then (if known then (if long then Some faults.TooLong
    else (if short then Some faults.TooShort else None)) else Some faults.Family) else Some faults.Command)) ≡ None
    → long ≡ false
short_of_tests true true p k s e = absurd (cc)
short_of_tests true false p k s e = refl
short_of_tests false true true true s e = absurd (cc)
short_of_tests false false true true s e = refl
short_of_tests false l true false s e = absurd (cc)
short_of_tests false l false k s e = absurd (cc)

at_most : (n : ℕ) → nat_lt 520 n ≡ false → n ≤ 520
at_most n e = grind (arith, nat_tests)

good_head_is_short : (c f size : ℕ) → head_fault c f size ≡ None → size ≤ 520
unfolding head_fault
good_head_is_short c f size e =
    at_most size (short_of_tests (c == local_command) (nat_lt 520 size) (c == proxy_command) (is_family f)
    (nat_lt size (least_block f)) e)

pub begun_is_short : (bytes : List ℕ) → IsBegun bytes → length bytes < 536
begun_is_short bytes (inl (inl h)) = let short = h.1 in omega arith
begun_is_short bytes (inl (inr h)) =
    let most = good_head_is_short (command_in bytes) (family_in bytes) (block_size bytes) h.1 in
    let short = h.2 in
    omega arith
begun_is_short bytes (inr h) = let short = h.short in omega arith
