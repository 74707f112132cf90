-- The first bytes of a stream, and what they rule out.
use Rattle.std.proofs.Common.{◌≡◌, ◌≢◌, ◌∙◌, sym, ap, refl, subst, ℕ, zero, suc, ◌+◌, ◌≤◌, ◌<◌, List, [], ◌∷◌, ◌++◌}
use Rattle.std.proofs.Common.{length, get_or, take, drop, min, arith, inl, inr, length-append}
use Rattle.std.proofs.lemmas.List.{get_or-take, take-take, take_at, take-append-le, get_or_past, take-append-drop}
use Rattle.std.specs.Prelude.{◌⊎◌, codes}
use Rattle.std.proofs.lemmas.Bool.{cases_lt}
use Rattle.proxy_header.specs.Block.{IsHead, signature}
use Rattle.proxy_header.specs.HeaderReading.{Agrees, word}
use Rattle.proxy_header.specs.Line.{IsEnd}

-- ---- Of two lists with one front

pub index_same : (xs ys : List ℕ) (n k : ℕ) → take n xs ≡ take n ys → k < n → get_or xs k 0 ≡ get_or ys k 0
index_same xs ys n k e h =
    sym (get_or-take n xs k 0 h) ∙ ap (λ (t : List ℕ). get_or t k 0) e ∙ get_or-take n ys k 0 h

pub front_same : (xs ys : List ℕ) (n m : ℕ) → take n xs ≡ take n ys → m ≤ n → take m xs ≡ take m ys
front_same xs ys n m e h =
    sym (take-take m n xs h) ∙ ap (λ (t : List ℕ). take m t) e ∙ take-take m n ys h

pub front_of_append : (xs ys : List ℕ) (n : ℕ) → n ≤ length xs → take n (xs ++ ys) ≡ take n xs
front_of_append xs ys n h = take-append-le n xs ys h

-- ---- The first byte

first_of_take : (n b : ℕ) (bs : List ℕ) → 0 < n → get_or (take n (b ∷ bs)) 0 0 ≡ b
first_of_take zero b bs h = absurd (omega arith)
first_of_take (suc n) b bs h = refl

pub taken_first : (n : ℕ) (bytes : List ℕ) (x : ℕ) (xs : List ℕ) → take n bytes ≡ x ∷ xs → get_or bytes 0 0 ≡ x
taken_first zero bytes x xs e = absurd (cc)
taken_first (suc n) [] x xs e = absurd (cc)
taken_first (suc n) (b ∷ bs) x xs e = ap (λ (t : List ℕ). get_or t 0 0) e

pub agrees_first : (bytes : List ℕ) (x : ℕ) (xs : List ℕ) → Agrees bytes (x ∷ xs) → 0 < length bytes
    → get_or bytes 0 0 ≡ x
agrees_first [] x xs e h = absurd (omega arith)
agrees_first (b ∷ bs) x xs e h =
    let n : ℕ = min (length (b ∷ bs)) (length (x ∷ xs)) in
    let some : 0 < n = omega arith in
    sym (first_of_take n b bs some) ∙ ap (λ (t : List ℕ). get_or t 0 0) e ∙ first_of_take n x xs some

pub head_first : (bytes : List ℕ) → IsHead bytes → get_or bytes 0 0 ≡ 13
head_first bytes head = taken_first 12 bytes 13 _ head.signed

-- no stream begins as both versions do
pub no_both : (bytes : List ℕ) → Agrees bytes signature → Agrees bytes word → 0 < length bytes → ⊥
no_both bytes two one some =
    let a = agrees_first bytes 13 (10 ∷ 13 ∷ 10 ∷ 0 ∷ 13 ∷ 10 ∷ 81 ∷ 85 ∷ 73 ∷ 84 ∷ 10 ∷ []) two some in
    let b = agrees_first bytes 80 (codes "ROXY ") one some in
    absurd (omega arith)

-- ---- Agreeing with a front

pub agrees_from : (bytes front rest : List ℕ) → bytes ≡ front ++ rest → Agrees bytes front
agrees_from bytes front rest e =
    let size : min (length bytes) (length front) ≡ length front =
    omega (arith, ap length e, length-append front rest) in
    ap (λ (n : ℕ). take n bytes) size ∙ ap (λ (t : List ℕ). take (length front) t) e
    ∙ take_at front rest (length front) refl
    ∙ sym (take-all-front front) ∙ ap (λ (n : ℕ). take n front) (sym size)
  where
    take-all-front : (xs : List ℕ) → take (length xs) xs ≡ xs
    take-all-front [] = refl
    take-all-front (x ∷ xs) = ap (λ (t : List ℕ). x ∷ t) (take-all-front xs)

pub head_agrees : (bytes : List ℕ) → IsHead bytes → Agrees bytes signature
head_agrees bytes head =
    agrees_from bytes signature (drop 12 bytes)
    (sym (take-append-drop 12 bytes) ∙ ap (λ (t : List ℕ). t ++ drop 12 bytes) head.signed)

pub agrees_head : (bytes : List ℕ) → Agrees bytes signature → 16 ≤ length bytes → IsHead bytes
agrees_head bytes e h =
    let size : min (length bytes) 12 ≡ 12 = omega arith in
    record { there = h; signed = subst (λ (n : ℕ). take n bytes ≡ take n signature) size e }

pub agrees_more : (bytes rest front : List ℕ) → Agrees bytes front → length front ≤ length bytes
    → Agrees (bytes ++ rest) front
agrees_more bytes rest front e h =
    let n : ℕ = length front in
    let size : min (length bytes) n ≡ n = omega arith in
    let size' : min (length (bytes ++ rest)) n ≡ n = omega (arith, length-append bytes rest) in
    let whole : take n bytes ≡ take n front = subst (λ (m : ℕ). take m bytes ≡ take m front) size e in
    subst (λ (m : ℕ). take m (bytes ++ rest) ≡ take m front) (sym size')
    (take-append-le n bytes rest h ∙ whole)

pub agrees_less : (bytes rest front : List ℕ) → Agrees (bytes ++ rest) front → Agrees bytes front
agrees_less bytes rest front e =
    let n : ℕ = min (length bytes) (length front) in
    let m : ℕ = min (length (bytes ++ rest)) (length front) in
    let fewer : n ≤ m = omega (arith, length-append bytes rest) in
    let within : n ≤ length bytes = omega arith in
    sym (take-append-le n bytes rest within) ∙ front_same (bytes ++ rest) front m n e fewer

-- ---- Where a CR LF stands

pub end_within : (bytes : List ℕ) (k : ℕ) → IsEnd bytes k → k + 2 ≤ length bytes
end_within bytes k h = by_cases (cases_lt (length bytes) (k + 2))
  where
    by_cases : (length bytes < k + 2) ⊎ (k + 2 ≤ length bytes) → k + 2 ≤ length bytes
    by_cases (inl below) =
        let past : get_or bytes (k + 1) 0 ≡ 0 = get_or_past bytes (k + 1) 0 (omega arith) in
        let ended : get_or bytes (k + 1) 0 ≡ 10 = h.1 in
        absurd (omega arith)
    by_cases (inr there) = there
