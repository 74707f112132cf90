-- A header hangs on its own bytes alone, and a fault stays whatever follows.
use Rattle.std.proofs.Common.{◌≡◌, ◌∙◌, sym, ap, subst, ℕ, zero, suc, ◌+◌, ◌≤◌, ◌<◌, List, ◌++◌, length, get_or, take, drop}
use Rattle.std.proofs.Common.{Some, None, min, arith, inl, inr, length-append}
use Rattle.std.proofs.lemmas.List.{get_or-take, take-append-le}
use Rattle.std.proofs.lemmas.Bool.{cases_lt}
use Rattle.std.proofs.lemmas.Slice.{between_is}
use Rattle.std.specs.Prelude.{◌⊎◌, slice_range}
use Rattle.proxy_header.specs.Block.{IsHead, IsVersion2, SaysBlock, block_size, command_in, family_in, head_fault, signature}
use Rattle.proxy_header.specs.HeaderReading.{Agrees, BeginsWith, EndsBadly, IsEndless, IsFaulty, word}
use Rattle.proxy_header.specs.Line.{IsEnd, IsVersion1, NoEndBelow, SpellsLine}
use Rattle.proxy_header.specs.declared.fault.HeaderFault.{HeaderFault}
use Rattle.proxy_header.specs.declared.fault.HeaderFault.TheVariants as faults
use Rattle.proxy_header.specs.declared.header.Header.{Header}
use Rattle.proxy_header.proofs.Fronts.{agrees_less, agrees_more, end_within, front_same, index_same}

-- the front of one is the front of the other
abbrev Same : ℕ → List ℕ → List ℕ → Type 0
Same n xs ys = take n xs ≡ take n ys

same_head : (xs ys : List ℕ) (n : ℕ) → Same n xs ys → 16 ≤ n → n ≤ length ys → IsHead xs → IsHead ys
same_head xs ys n e h there head = record {
  there = omega arith;
  signed = sym (front_same xs ys n 12 e (omega arith)) ∙ head.signed;
}

same_fault : (xs ys : List ℕ) (n : ℕ) → Same n xs ys → 16 ≤ n
    → (command_in xs ≡ command_in ys) × (family_in xs ≡ family_in ys) × (block_size xs ≡ block_size ys)
same_fault xs ys n e h =
    let high = index_same xs ys n 14 e (omega arith) in
    let low = index_same xs ys n 15 e (omega arith) in
    (index_same xs ys n 12 e (omega arith), index_same xs ys n 13 e (omega arith), omega arith)

same_range : (xs ys : List ℕ) (n : ℕ) → Same n xs ys → slice_range xs 16 n ≡ slice_range ys 16 n
same_range xs ys n e = between_is xs 16 n ∙ ap (λ (t : List ℕ). drop 16 t) e ∙ sym (between_is ys 16 n)

same_end : (xs ys : List ℕ) (n k : ℕ) → Same n xs ys → k + 2 ≤ n → IsEnd xs k → IsEnd ys k
same_end xs ys n k e h end =
    (sym (index_same xs ys n k e (omega arith)) ∙ end.0, sym (index_same xs ys n (k + 1) e (omega arith)) ∙ end.1)

version2_stays : (xs ys : List ℕ) (n : ℕ) (said : Header) → Same n xs ys → n ≤ length ys → IsVersion2 xs n said → IsVersion2 ys n said
version2_stays xs ys n said e there h =
    let ends = h.ends in
    let long : 16 ≤ n = omega arith in
    let same = same_fault xs ys n e long in
    record {
      head = same_head xs ys n e long there h.head;
      good =
          subst (λ (x : ℕ). head_fault x (family_in ys) (block_size ys) ≡ None) same.0
          (subst (λ (x : ℕ). head_fault (command_in xs) x (block_size ys) ≡ None) same.1
          (subst (λ (x : ℕ). head_fault (command_in xs) (family_in xs) x ≡ None) same.2 h.good));
      ends = let size = same.2 in omega arith;
      there = there;
      says =
          subst (λ (x : ℕ). SaysBlock x (family_in ys) (slice_range ys 16 n) said) same.0
          (subst (λ (x : ℕ). SaysBlock (command_in xs) x (slice_range ys 16 n) said) same.1
          (subst (λ (x : List ℕ). SaysBlock (command_in xs) (family_in xs) x said) (same_range xs ys n e) h.says));
    }

version1_stays : (xs ys : List ℕ) (n : ℕ) (said : Header) → Same n xs ys → n ≤ length ys → IsVersion1 xs n said → IsVersion1 ys n said
version1_stays xs ys n said e there h =
    let ends = h.ends in
    record {
      place = h.place;
      ends = h.ends;
      short = h.short;
      first = λ k below end. h.first k below (same_end ys xs n k (sym e) (omega arith) end);
      ended = same_end xs ys n h.place e (omega arith) h.ended;
      says =
          subst (λ (line : List ℕ). SpellsLine line said) (front_same xs ys n h.place e (omega arith)) h.says;
    }

pub headers_stay : (xs ys : List ℕ) (n : ℕ) (said : Header) → take n ys ≡ take n xs → n ≤ length ys → BeginsWith xs n said → BeginsWith ys n said
headers_stay xs ys n said e there (inl h) = inl (version2_stays xs ys n said (sym e) there h)
headers_stay xs ys n said e there (inr h) = inr (version1_stays xs ys n said (sym e) there h)

-- ---- Faults

fault_of_head_stays : (bytes rest : List ℕ) (fault : HeaderFault)
    → IsHead bytes × (head_fault (command_in bytes) (family_in bytes) (block_size bytes) ≡ Some fault)
    → IsHead (bytes ++ rest) × (head_fault (command_in (bytes ++ rest)) (family_in (bytes ++ rest)) (block_size (bytes ++ rest)) ≡ Some fault)
fault_of_head_stays bytes rest fault h =
    let there = h.0.there in
    let longer : 16 ≤ length (bytes ++ rest) = omega (arith, length-append bytes rest) in
    let e : take 16 bytes ≡ take 16 (bytes ++ rest) = sym (take-append-le 16 bytes rest there) in
    let same = same_fault bytes (bytes ++ rest) 16 e (omega arith) in (
      same_head bytes (bytes ++ rest) 16 e (omega arith) longer h.0,
      subst (λ (x : ℕ). head_fault x (family_in (bytes ++ rest)) (block_size (bytes ++ rest)) ≡ Some fault) same.0
          (subst (λ (x : ℕ). head_fault (command_in bytes) x (block_size (bytes ++ rest)) ≡ Some fault) same.1
          (subst (λ (x : ℕ). head_fault (command_in bytes) (family_in bytes) x ≡ Some fault) same.2 h.1)),
    )

endless_stays : (bytes rest : List ℕ) → IsEndless bytes → IsEndless (bytes ++ rest)
endless_stays bytes rest h =
    let long = h.long in
    let e : take 107 bytes ≡ take 107 (bytes ++ rest) = sym (take-append-le 107 bytes rest long) in
    record {
      begun = agrees_more bytes rest word h.begun (omega arith);
      long = omega (arith, length-append bytes rest);
      endless = λ k short end. h.endless k short (same_end (bytes ++ rest) bytes 107 k (sym e) (omega arith) end);
    }

bad_line_stays : (bytes rest : List ℕ) (place : ℕ) → EndsBadly bytes place → 6 ≤ place → EndsBadly (bytes ++ rest) place
bad_line_stays bytes rest place h six =
    let within = end_within bytes place h.ended in
    let n : ℕ = place + 2 in
    let e : take n bytes ≡ take n (bytes ++ rest) = sym (take-append-le n bytes rest within) in
    record {
      begun = agrees_more bytes rest word h.begun (omega arith);
      short = h.short;
      first = λ k below end. h.first k below (same_end (bytes ++ rest) bytes n k (sym e) (omega arith) end);
      ended = same_end bytes (bytes ++ rest) n place e (omega arith) h.ended;
      unspelled = λ said spelled. h.unspelled said
          (subst (λ (line : List ℕ). SpellsLine line said)
          (sym (front_same bytes (bytes ++ rest) n place e (omega arith))) spelled);
    }

word_has_no_return : (k : ℕ) → k < 6 → get_or word k 0 ≡ 13 → ⊥
word_has_no_return zero h e = absurd (omega arith)
word_has_no_return (suc zero) h e = absurd (omega arith)
word_has_no_return (suc (suc zero)) h e = absurd (omega arith)
word_has_no_return (suc (suc (suc zero))) h e = absurd (omega arith)
word_has_no_return (suc (suc (suc (suc zero)))) h e = absurd (omega arith)
word_has_no_return (suc (suc (suc (suc (suc zero))))) h e = absurd (omega arith)
word_has_no_return (suc (suc (suc (suc (suc (suc k)))))) h e = absurd (omega arith)

-- no line ends within its word
behind_word : (bytes : List ℕ) (place : ℕ) → Agrees bytes word → IsEnd bytes place → 6 ≤ place
behind_word bytes place agrees end = by_cases (cases_lt place 6)
  where
    by_cases : (place < 6) ⊎ (6 ≤ place) → 6 ≤ place
    by_cases (inr there) = there
    by_cases (inl below) =
        let within = end_within bytes place end in
        let n : ℕ = min (length bytes) (length word) in
        let inside : place < n = omega arith in
        absurd (word_has_no_return place below
        (sym (get_or-take n word place 0 inside) ∙ ap (λ (t : List ℕ). get_or t place 0) (sym agrees)
        ∙ get_or-take n bytes place 0 inside ∙ end.0))

pub faults_stay : (bytes rest : List ℕ) (fault : HeaderFault) → IsFaulty bytes fault → IsFaulty (bytes ++ rest) fault
faults_stay bytes rest faults.NoHeader h =
    (λ agrees. h.0 (agrees_less bytes rest signature agrees), λ agrees. h.1 (agrees_less bytes rest word agrees))
faults_stay bytes rest faults.Command h = fault_of_head_stays bytes rest faults.Command h
faults_stay bytes rest faults.Family h = fault_of_head_stays bytes rest faults.Family h
faults_stay bytes rest faults.TooLong h = fault_of_head_stays bytes rest faults.TooLong h
faults_stay bytes rest faults.TooShort h = fault_of_head_stays bytes rest faults.TooShort h
faults_stay bytes rest faults.NoEnd h = endless_stays bytes rest h
faults_stay bytes rest faults.BadLine h =
    (h.0, bad_line_stays bytes rest h.0 h.1 (behind_word bytes h.0 h.1.begun h.1.ended))
