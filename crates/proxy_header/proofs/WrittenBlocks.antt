-- What is written in version 2 is a header.
use Rattle.std.proofs.Common.{◌≡◌, ◌∙◌, sym, ap, refl, subst, ℕ, ◌+◌, ◌-◌, ◌*◌, ◌/◌, ◌%◌, ◌^◌, ◌≤◌, ◌<◌, List, [], ◌∷◌, ◌++◌}
use Rattle.std.proofs.Common.{length, get_or, take, drop, Some, None, arith, inl, inr, length-append}
use Rattle.std.proofs.lemmas.List.{drop_at, take_all, take_at}
use Rattle.std.proofs.NetLemmas.Arrays.{eight_items, four_items}
use Rattle.std.specs.Prelude.{slice_range}
use Rattle.std.specs.Net.Addr.{octets_of, segments_of}
use Rattle.proxy_header.specs.Block.{HasEndsV4, HasEndsV6, HasNames, IsVersion2, SaysBlock, head_fault, number_at, signature}
use Rattle.proxy_header.specs.HeaderReading.{BeginsWith}
use Rattle.proxy_header.specs.HeaderWriting.{IsHeader, block_of, command_of, family_of, two_bytes, version2_bytes}
use Rattle.proxy_header.specs.declared.header.EndsV4.{EndsV4}
use Rattle.proxy_header.specs.declared.header.EndsV6.{EndsV6}
use Rattle.proxy_header.specs.declared.header.Header.{Header}
use Rattle.proxy_header.specs.declared.header.Header.TheVariants.{Local, Unknown, V4, V6, Unix}
use Rattle.proxy_header.specs.declared.header.Names.{Names}

-- a head of this command, this family and this block, and the block
abbrev Written : ℕ → ℕ → List ℕ → List ℕ
Written command family block = signature ++ (command ∷ family ∷ (two_bytes (length block) ++ block))

two_bytes_are : (n : ℕ) → 256 * (n / 256) + n % 256 ≡ n
two_bytes_are n = omega arith

written : (said : Header) (c f : ℕ) (block rest : List ℕ) → head_fault c f (length block) ≡ None
    → SaysBlock c f block said → IsVersion2 (Written c f block ++ rest) (length (Written c f block)) said
written said c f block rest good says =
    let n : ℕ = length block in
    let size = two_bytes_are n in
    let count : length (Written c f block) ≡ 16 + n = omega arith in
    let left : length (Written c f block) - 16 ≡ n = omega arith in
    let range : slice_range (Written c f block ++ rest) 16 (length (Written c f block)) ≡ block =
    ap (λ (k : ℕ). take k (block ++ rest)) left ∙ take_at block rest n refl in
    record {
      head = record { there = omega (arith, length-append block rest); signed = refl };
      good = subst (λ (x : ℕ). head_fault c f x ≡ None) (sym size) good;
      ends = omega arith;
      there = omega (arith, length-append block rest);
      says = subst (λ (x : List ℕ). SaysBlock c f x said) (sym range) says;
    }

-- ---- Blocks of addresses

segments-octets : (xs : List ℕ) → segments_of (octets_of xs) ≡ xs
segments-octets [] = refl
segments-octets (x ∷ xs) =
    let head : x / 256 * 256 + x % 256 ≡ x = omega arith in
    ap (λ (y : ℕ). y ∷ segments_of (octets_of xs)) head ∙ ap (λ (t : List ℕ). x ∷ t) (segments-octets xs)

-- two addresses and two ports, as a block of IPv4 has them
record Four (o o' : List ℕ) (m n : ℕ) (block : List ℕ) : Type 0 where
  size : length block ≡ 12
  source : slice_range block 0 4 ≡ o
  destination : slice_range block 4 8 ≡ o'
  first : number_at block 8 ≡ m
  second : number_at block 10 ≡ n

four_of : (o o' : List ℕ) (m n : ℕ) → length o ≡ 4 → length o' ≡ 4
    → Four o o' m n (o ++ (o' ++ (two_bytes m ++ two_bytes n)))
four_of o o' m n h k =
    let P : List ℕ → Type 0 = λ x. Four x o' m n (x ++ (o' ++ (two_bytes m ++ two_bytes n))) in
    let a : ℕ = get_or o 0 0 in
    let b : ℕ = get_or o 1 0 in
    let c : ℕ = get_or o 2 0 in
    let d : ℕ = get_or o 3 0 in
    let Q : List ℕ → Type 0 = λ y. Four (a ∷ b ∷ c ∷ d ∷ []) y m n ((a ∷ b ∷ c ∷ d ∷ []) ++ (y ++ (two_bytes m ++ two_bytes n))) in
    subst P (sym (four_items o h)) (subst Q (sym (four_items o' k)) (record {
      size = refl;
      source = refl;
      destination = refl;
      first = two_bytes_are m;
      second = two_bytes_are n;
    }))

-- as one of IPv6 has them
record Eight (s s' : List ℕ) (m n : ℕ) (block : List ℕ) : Type 0 where
  size : length block ≡ 36
  source : segments_of (slice_range block 0 16) ≡ s
  destination : segments_of (slice_range block 16 32) ≡ s'
  first : number_at block 32 ≡ m
  second : number_at block 34 ≡ n

eight_of : (s s' : List ℕ) (m n : ℕ) → length s ≡ 8 → length s' ≡ 8
    → Eight s s' m n (octets_of s ++ (octets_of s' ++ (two_bytes m ++ two_bytes n)))
eight_of s s' m n h k =
    let P : List ℕ → Type 0 = λ x. Eight x s' m n (octets_of x ++ (octets_of s' ++ (two_bytes m ++ two_bytes n))) in
    let t : List ℕ =
    get_or s 0 0 ∷ get_or s 1 0 ∷ get_or s 2 0 ∷ get_or s 3 0 ∷ get_or s 4 0 ∷ get_or s 5 0 ∷ get_or s 6 0 ∷ get_or s 7 0 ∷ [] in
    let t' : List ℕ =
    get_or s' 0 0 ∷ get_or s' 1 0 ∷ get_or s' 2 0 ∷ get_or s' 3 0 ∷ get_or s' 4 0 ∷ get_or s' 5 0 ∷ get_or s' 6 0 ∷ get_or s' 7 0 ∷ [] in
    let Q : List ℕ → Type 0 = λ y. Eight t y m n (octets_of t ++ (octets_of y ++ (two_bytes m ++ two_bytes n))) in
    subst P (sym (eight_items s h)) (subst Q (sym (eight_items s' k)) (record {
      size = refl;
      source = segments-octets t;
      destination = segments-octets t';
      first = two_bytes_are m;
      second = two_bytes_are n;
    }))

-- ---- Each header

good_of : (c f size n : ℕ) → size ≡ n → head_fault c f n ≡ None → head_fault c f size ≡ None
good_of c f size n same good = subst (λ (x : ℕ). head_fault c f x ≡ None) (sym same) good

no_fault_local : head_fault 0x20 0 0 ≡ None
unfolding head_fault
no_fault_local = refl

no_fault_unknown : head_fault 0x21 0 0 ≡ None
unfolding head_fault
no_fault_unknown = refl

no_fault_v4 : head_fault 0x21 0x11 12 ≡ None
unfolding head_fault
no_fault_v4 = refl

no_fault_v6 : head_fault 0x21 0x21 36 ≡ None
unfolding head_fault
no_fault_v6 = refl

no_fault_unix : head_fault 0x21 0x31 216 ≡ None
unfolding head_fault
no_fault_unix = refl

pub version2_says : (header : Header) (rest : List ℕ) → IsHeader header
    → BeginsWith (version2_bytes header ++ rest) (length (version2_bytes header)) header
version2_says Local rest is = inl (written Local 0x20 0 [] rest no_fault_local refl)
version2_says Unknown rest is = inl (written Unknown 0x21 0 [] rest no_fault_unknown (refl, refl))
version2_says (V4 ends) rest is =
    let four = four_of ends.source.octets ends.destination.octets ends.source_port ends.destination_port is.0.0 is.1.0 in
    inl (written (V4 ends) 0x21 0x11 (block_of (V4 ends)) rest
    (good_of 0x21 0x11 (length (block_of (V4 ends))) 12 four.size no_fault_v4) (
      refl,
      refl,
      record {
        source_is = four.source;
        destination_is = four.destination;
        source_port_is = four.first;
        destination_port_is = four.second;
      },
    ))
version2_says (V6 ends) rest is =
    let eight = eight_of ends.source.segments ends.destination.segments ends.source_port ends.destination_port is.0.0 is.1.0 in
    inl (written (V6 ends) 0x21 0x21 (block_of (V6 ends)) rest
    (good_of 0x21 0x21 (length (block_of (V6 ends))) 36 eight.size no_fault_v6) (
      refl,
      refl,
      record {
        source_is = eight.source;
        destination_is = eight.destination;
        source_port_is = eight.first;
        destination_port_is = eight.second;
      },
    ))
version2_says (Unix names) rest is =
    let s : List ℕ = names.source in
    let d : List ℕ = names.destination in
    let size : length (s ++ d) ≡ 216 = omega (arith, length-append s d, is.0, is.1) in
    inl (written (Unix names) 0x21 0x31 (s ++ d) rest (good_of 0x21 0x31 (length (s ++ d)) 216 size no_fault_unix) (
      refl,
      refl,
      record {
        source_is = take_at s d 108 is.0;
        destination_is =
            ap (λ (t : List ℕ). take 108 t) (drop_at s d 108 is.0) ∙ take_all 108 d (omega (arith, is.1));
      },
    ))
