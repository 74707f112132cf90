-- A line's parts, and that it has them in one way.
use Rattle.std.specs.Prelude.{◌≡◌, ◌+◌, ◌*◌, ◌^◌, ◌≤◌, ◌<◌, ◌∷◌, ◌++◌, if◌then◌else◌}
use Rattle.lockword_script.proofs.Words.{◌∙◌, sym, ap, refl, subst, ℕ, List, length}
use Rattle.lockword_script.proofs.Words.{arith, inl, inr, length-append, codes, decimal, bytes_eq}
use Rattle.lockword_script.proofs.Words.{decimal_injective, length-decimal-le, Lacks, cut_once, lacks-append, lacks_not}
use Rattle.lockword_script.proofs.Words.{decimal-lacks, Read, Write, Op}
use Rattle.lockword_core.specs.declared.stake.Op.TheVariants as op
use Rattle.lockword_script.specs.declared.script.TheConstants.{HOLDERS, HOLDER_DIGITS, NAME_BYTES, MAX_LINE_BYTES}
use Rattle.lockword_script.specs.Script.{operation_name, NamesHolders, Says, IsBadLine}

-- the names of holders have no space
pub holders_lack_space : (text : List ℕ) (first count : ℕ) → first < 2 ^ 64 → count < 2 ^ 64
    → NamesHolders text first count → Lacks 32 text
holders_lack_space text first count p q = elim [
  | inl alone ↦ subst (Lacks 32) (sym alone.1) (decimal-lacks 32 first p (λ r. omega arith))
  | inr range ↦ subst (Lacks 32) (sym range) (lacks-append 32 (decimal first) (codes "+" ++ decimal count)
      (decimal-lacks 32 first p (λ r. omega arith))
      ((λ (e : 43 ≡ 32). omega arith), decimal-lacks 32 count q (λ r. omega arith)))
]

-- with no plus there is one holder
pub names_one : (text : List ℕ) (first count : ℕ) → Lacks 43 text → NamesHolders text first count
    → (count ≡ 1) × (text ≡ decimal first)
names_one text first count l = elim [
  | inl alone ↦ alone
  | inr range ↦ absurd (lacks_not 43 (decimal first) (decimal count) (subst (Lacks 43) range l))
]

-- with a plus there are two numbers
pub names_range : (text front back : List ℕ) (first count : ℕ) → first < 2 ^ 64 → Lacks 43 front
    → text ≡ front ++ 43 ∷ back → NamesHolders text first count → (front ≡ decimal first) × (back ≡ decimal count)
names_range text front back first count p l e = elim [
  | inl alone ↦ absurd (lacks_not 43 front back (subst (Lacks 43) (sym alone.1 ∙ e)
      (decimal-lacks 43 first p (λ r. omega arith))))
  | inr range ↦ cut_once 43 front back (decimal first) (decimal count) l (decimal-lacks 43 first p (λ r. omega arith))
      (sym e ∙ range)
]

-- a text names holders in one way
pub same_holders : (text : List ℕ) (first count first' count' : ℕ) → first < 2 ^ 64 → count < 2 ^ 64 → first' < 2 ^ 64
    → count' < 2 ^ 64 → NamesHolders text first count → NamesHolders text first' count'
    → (first ≡ first') × (count ≡ count')
same_holders text first count first' count' p q p' q' = elim [
  | inl alone ↦ λ other.
      let l : Lacks 43 text = subst (Lacks 43) (sym alone.1) (decimal-lacks 43 first p (λ r. omega arith)) in
      let one = names_one text first' count' l other in
      (decimal_injective first first' p p' (sym alone.1 ∙ one.1), alone.0 ∙ sym one.0)
  | inr range ↦ λ other.
      let two =
      names_range text (decimal first) (decimal count) first' count' p' (decimal-lacks 43 first p (λ r. omega arith))
      range other in
      (decimal_injective first first' p p' two.0, decimal_injective count count' q q' two.1)
]

-- what a line says where it is cut at its first space
pub record SaysByParts (holders name : List ℕ) (first count : ℕ) (asked : Op) : Type 0 where
  pub first_fits : first < 2 ^ 64
  pub count_fits : count < 2 ^ 64
  pub names : NamesHolders holders first count
  pub named : name ≡ operation_name asked

pub says_by_parts : (line holders name : List ℕ) (first count : ℕ) (asked : Op) → Lacks 32 holders
    → line ≡ holders ++ 32 ∷ name → Says line first count asked → SaysByParts holders name first count asked
says_by_parts line holders name first count asked l e says =
    let named : first + count ≤ HOLDERS = says.named in
    let p : first < 2 ^ 64 = omega arith in
    let q : count < 2 ^ 64 = omega arith in
    let cut =
    cut_once 32 holders name says.holders (operation_name asked) l
    (holders_lack_space says.holders first count p q says.names) (sym e ∙ says.text) in
    record {
      first_fits = p;
      count_fits = q;
      names =
          subst (λ (t : List ℕ). NamesHolders t first count) (sym cut.0) says.names;
      named = cut.1;
    }

-- a line that says something has a space
pub says_with_space : (line : List ℕ) (first count : ℕ) (asked : Op) → Lacks 32 line → Says line first count asked → ⊥
says_with_space line first count asked l says =
    lacks_not 32 says.holders (operation_name asked) (subst (Lacks 32) says.text l)

-- ---- A line says one thing

-- the operation of a name
operation_of : List ℕ → Op
operation_of name =
    if bytes_eq name (codes "incref") then op.Incref
    else if bytes_eq name (codes "decref") then op.Decref
    else if bytes_eq name (codes "rlock") then op.Lock Read
    else if bytes_eq name (codes "wlock") then op.Lock Write
    else if bytes_eq name (codes "runlock") then op.Unlock Read
    else if bytes_eq name (codes "wunlock") then op.Unlock Write
    else if bytes_eq name (codes "rsignal") then op.Signal Read
    else if bytes_eq name (codes "wsignal") then op.Signal Write
    else if bytes_eq name (codes "rwake") then op.Wake Read
    else if bytes_eq name (codes "wwake") then op.Wake Write
    else if bytes_eq name (codes "close") then op.Close
    else if bytes_eq name (codes "drain") then op.Drain
    else op.Destroy

operation_of-operation_name : (asked : Op) → operation_of (operation_name asked) ≡ asked
unfolding operation_of
operation_of-operation_name op.Incref = refl
operation_of-operation_name op.Decref = refl
operation_of-operation_name (op.Lock Read) = refl
operation_of-operation_name (op.Lock Write) = refl
operation_of-operation_name (op.Unlock Read) = refl
operation_of-operation_name (op.Unlock Write) = refl
operation_of-operation_name (op.Signal Read) = refl
operation_of-operation_name (op.Signal Write) = refl
operation_of-operation_name (op.Wake Read) = refl
operation_of-operation_name (op.Wake Write) = refl
operation_of-operation_name op.Close = refl
operation_of-operation_name op.Drain = refl
operation_of-operation_name op.Destroy = refl

operation_name_injective : (asked asked' : Op) → operation_name asked ≡ operation_name asked' → asked ≡ asked'
operation_name_injective asked asked' e = sym (operation_of-operation_name asked) ∙ ap operation_of e
    ∙ operation_of-operation_name asked'

-- a line says one thing
pub says_once : (line : List ℕ) (first count first' count' : ℕ) (asked asked' : Op) → Says line first count asked
    → Says line first' count' asked' → (first ≡ first') × (count ≡ count') × (asked ≡ asked')
says_once line first count first' count' asked asked' says says' =
    let named : first + count ≤ HOLDERS = says.named in
    let p : first < 2 ^ 64 = omega arith in
    let q : count < 2 ^ 64 = omega arith in
    let parts =
    says_by_parts line says.holders (operation_name asked) first' count' asked'
    (holders_lack_space says.holders first count p q says.names) says.text says' in
    let same =
    same_holders says.holders first count first' count' p q parts.first_fits parts.count_fits says.names parts.names in
    (same.0, same.1, operation_name_injective asked asked' parts.named)

-- ---- A long line is bad

length-operation_name : (asked : Op) → length (operation_name asked) ≤ NAME_BYTES
length-operation_name op.Incref = omega arith
length-operation_name op.Decref = omega arith
length-operation_name (op.Lock Read) = omega arith
length-operation_name (op.Lock Write) = omega arith
length-operation_name (op.Unlock Read) = omega arith
length-operation_name (op.Unlock Write) = omega arith
length-operation_name (op.Signal Read) = omega arith
length-operation_name (op.Signal Write) = omega arith
length-operation_name (op.Wake Read) = omega arith
length-operation_name (op.Wake Write) = omega arith
length-operation_name op.Close = omega arith
length-operation_name op.Drain = omega arith
length-operation_name op.Destroy = omega arith

-- names of holders of so many digits are short
holders_short : (text : List ℕ) (first count : ℕ) → first < 10 ^ HOLDER_DIGITS → count < 10 ^ HOLDER_DIGITS
    → NamesHolders text first count → length text ≤ 2 * HOLDER_DIGITS + 1
holders_short text first count p q =
    let a : length (decimal first) ≤ HOLDER_DIGITS =
    length-decimal-le HOLDER_DIGITS first (omega arith) p (omega arith) in
    let b : length (decimal count) ≤ HOLDER_DIGITS =
    length-decimal-le HOLDER_DIGITS count (omega arith) q (omega arith) in
    elim [
      | inl alone ↦ omega (arith, ap length alone.1)
      | inr range ↦ omega (arith, ap length range, length-append (decimal first) (43 ∷ decimal count))
    ]

-- a line of more bytes than that is bad
pub long_line_bad : (line : List ℕ) → MAX_LINE_BYTES < length line → IsBadLine line
long_line_bad line long first count asked says =
    let named : first + count ≤ HOLDERS = says.named in
    let short : length says.holders ≤ 2 * HOLDER_DIGITS + 1 =
    holders_short says.holders first count (omega arith) (omega arith) says.names in
    omega (
      arith,
      ap length says.text,
      length-append says.holders (32 ∷ operation_name asked),
      length-operation_name
          asked,
    )

-- what the parts say the line says, where it says anything
pub says_only : (line holders name : List ℕ) (first count first' count' : ℕ) (asked : Op) → Lacks 32 holders
    → line ≡ holders ++ 32 ∷ name → first < 2 ^ 64 → count < 2 ^ 64 → NamesHolders holders first count
    → Says line first' count' asked → (first ≡ first') × (count ≡ count')
says_only line holders name first count first' count' asked l e p q names says =
    let parts = says_by_parts line holders name first' count' asked l e says in
    same_holders holders first count first' count' p q parts.first_fits parts.count_fits names parts.names

-- so a line is bad if its parts say that no holder asks
pub bad_of_none : (line holders name : List ℕ) (first count : ℕ) → Lacks 32 holders → line ≡ holders ++ 32 ∷ name
    → first < 2 ^ 64 → count < 2 ^ 64 → NamesHolders holders first count → count ≡ 0 → IsBadLine line
bad_of_none line holders name first count l e p q names none first' count' asked says =
    let same = says_only line holders name first count first' count' asked l e p q names says in
    let here : count ≡ count' = same.1 in
    let some : 1 ≤ count' = says.some in
    omega arith

-- or that one asks who can't be named
pub bad_of_far : (line holders name : List ℕ) (first count : ℕ) → Lacks 32 holders → line ≡ holders ++ 32 ∷ name
    → first < 2 ^ 64 → count < 2 ^ 64 → NamesHolders holders first count → HOLDERS < first + count → IsBadLine line
bad_of_far line holders name first count l e p q names far first' count' asked says =
    let same = says_only line holders name first count first' count' asked l e p q names says in
    let here : first ≡ first' = same.0 in
    let there : count ≡ count' = same.1 in
    let named : first' + count' ≤ HOLDERS = says.named in
    omega arith
