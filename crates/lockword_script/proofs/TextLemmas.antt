-- Each line says something or is bad, so each script has a text; and it has one.
use Rattle.std.specs.Prelude.{◌≡◌, ◌≢◌, ◌+◌, ◌^◌, ◌≤◌, ◌<◌, ◌∷◌, ◌++◌, ◌⊎◌}
use Rattle.lockword_script.proofs.Words.{◌∙◌, sym, ap, refl, subst, ℕ, zero, suc, List}
use Rattle.lockword_script.proofs.Words.{[], take, Option, None, Some, Bool, true, false, arith, inl, inr}
use Rattle.lockword_script.proofs.Words.{bytes_eq, decimal, bytes_eq-Decides, cases_lt, cases_eq, Lacks, number_of}
use Rattle.lockword_script.proofs.Words.{number_of-decimal, number_of-spelled, Read, Write, Op, LockState, state_after}
use Rattle.lockword_core.specs.declared.stake.Op.TheVariants as op
use Rattle.lockword_script.specs.declared.script.TheConstants.{HOLDERS, MAX_LINES}
use Rattle.lockword_script.specs.Script.{operation_name, NamesHolders, Says, IsBadLine, events_of}
use Rattle.lockword_script.specs.TraceOutput.{Prints, printed_of_events, printed_of_bad_line, whole, good, bad}
use Rattle.lockword_script.specs.declared.outcome.End.{End}
use Rattle.lockword_script.specs.declared.outcome.End.TheVariants.{Whole, BadLine}
use Rattle.lockword_script.proofs.ScriptLemmas.{names_one, names_range, says_by_parts, says_with_space, says_once}
use Rattle.lockword_script.proofs.ScriptLemmas.{bad_of_none, bad_of_far}

-- ---- A part of a line

-- the text is cut at the first such byte
record IsCut (b : ℕ) (text : List ℕ) : Type 0 where
  front : List ℕ
  back : List ℕ
  first : Lacks b front
  are : text ≡ front ++ b ∷ back

cut_or_lacks : (b : ℕ) (text : List ℕ) → IsCut b text ⊎ Lacks b text
cut_or_lacks b [] = inr tt
cut_or_lacks b (c ∷ text) = elim (cases_eq c b) [
  | inl e ↦ inl (record { front = []; back = text; first = tt; are = ap (λ (d : ℕ). d ∷ text) e })
  | inr other ↦ elim (cut_or_lacks b text) [
    | inl w ↦ inl (record {
      front = c ∷ w.front;
      back = w.back;
      first =
          (other, w.first);
      are = ap (λ (t : List ℕ). c ∷ t) w.are;
    })
    | inr l ↦ inr (other, l)
  ]
]

is_true_or_false : (b : Bool) → (b ≡ true) ⊎ (b ≡ false)
is_true_or_false true = inl refl
is_true_or_false false = inr refl

-- the text spells a number below 2^64
record IsNumber (text : List ℕ) : Type 0 where
  value : ℕ
  fits : value < 2 ^ 64
  spelled : text ≡ decimal value

abbrev IsNoNumber : List ℕ → Type 0
IsNoNumber text = (n : ℕ) → n < 2 ^ 64 → text ≢ decimal n

number_or_none : (text : List ℕ) → IsNumber text ⊎ IsNoNumber text
number_or_none text = by_number (number_of text) refl
  where
    by_number : (number : Option ℕ) → number_of text ≡ number → IsNumber text ⊎ IsNoNumber text
    by_number (Some n) e = let spelled = number_of-spelled text n e in
        inl (record { value = n; fits = spelled.1; spelled = spelled.0 })
    by_number None e =
        inr (λ n fits is. let here : number_of text ≡ Some n = number_of-decimal text n is fits in absurd (cc))

-- the text is an operation's name
record IsName (name : List ℕ) : Type 0 where
  asked : Op
  spelled : name ≡ operation_name asked

abbrev IsNoneOf : List ℕ → List Op → Type 0
IsNoneOf name [] = Unit {0}
IsNoneOf name (asked ∷ others) = (name ≢ operation_name asked) × IsNoneOf name others

name_or_none_of : (name : List ℕ) (operations : List Op) → IsName name ⊎ IsNoneOf name operations
name_or_none_of name [] = inr tt
name_or_none_of name (asked ∷ others) =
    let decides = bytes_eq-Decides name (operation_name asked) in
    elim (is_true_or_false (bytes_eq name (operation_name asked))) [
      | inl is ↦ inl (record { asked = asked; spelled = decides.0 is })
      | inr isnt ↦ elim (name_or_none_of name others) [
        | inl w ↦ inl w
        | inr l ↦ inr (
          (λ (e : name ≡ operation_name asked). let here : bytes_eq name (operation_name asked) ≡ true =
              decides.1 e in absurd (cc)),
          l,
        )
      ]
    ]

abbrev all_operations : List Op
all_operations =
    op.Incref ∷ op.Decref ∷ op.Lock Read ∷ op.Lock Write ∷ op.Unlock Read ∷ op.Unlock Write ∷ op.Signal Read ∷ op.Signal
    Write ∷ op.Wake Read ∷ op.Wake Write ∷ op.Close ∷ op.Drain ∷ op.Destroy ∷ []

is_no_name : (name : List ℕ) → IsNoneOf name all_operations → (asked : Op) → name ≢ operation_name asked
is_no_name name n op.Incref = n.0
is_no_name name n op.Decref = n.1.0
is_no_name name n (op.Lock Read) = n.1.1.0
is_no_name name n (op.Lock Write) = n.1.1.1.0
is_no_name name n (op.Unlock Read) = n.1.1.1.1.0
is_no_name name n (op.Unlock Write) = n.1.1.1.1.1.0
is_no_name name n (op.Signal Read) = n.1.1.1.1.1.1.0
is_no_name name n (op.Signal Write) = n.1.1.1.1.1.1.1.0
is_no_name name n (op.Wake Read) = n.1.1.1.1.1.1.1.1.0
is_no_name name n (op.Wake Write) = n.1.1.1.1.1.1.1.1.1.0
is_no_name name n op.Close = n.1.1.1.1.1.1.1.1.1.1.0
is_no_name name n op.Drain = n.1.1.1.1.1.1.1.1.1.1.1.0
is_no_name name n op.Destroy = n.1.1.1.1.1.1.1.1.1.1.1.1.0

-- the text names holders
record NamesSome (text : List ℕ) : Type 0 where
  first : ℕ
  count : ℕ
  first_fits : first < 2 ^ 64
  count_fits : count < 2 ^ 64
  names : NamesHolders text first count

abbrev NamesNone : List ℕ → Type 0
NamesNone text = (first count : ℕ) → first < 2 ^ 64 → count < 2 ^ 64 → NamesHolders text first count → ⊥

holders_or_none : (text : List ℕ) → NamesSome text ⊎ NamesNone text
holders_or_none text = elim (cut_or_lacks 43 text) [
  | inl w ↦ elim (number_or_none w.front) [
    | inl a ↦ elim (number_or_none w.back) [
      | inl b ↦ inl (record {
        first = a.value;
        count = b.value;
        first_fits = a.fits;
        count_fits = b.fits;
        names =
            inr (w.are ∙ ap (λ (t : List ℕ). t ++ 43 ∷ w.back) a.spelled
            ∙ ap (λ (t : List ℕ). decimal a.value ++ 43 ∷ t) b.spelled);
      })
      | inr never ↦ inr (λ first count p q names. let two =
          names_range text w.front w.back first count p w.first w.are names in never count q two.1)
    ]
    | inr never ↦ inr (λ first count p q names. let two =
        names_range text w.front w.back first count p w.first w.are names in never first p two.0)
  ]
  | inr l ↦ elim (number_or_none text) [
    | inl a ↦ inl (record {
      first = a.value;
      count = 1;
      first_fits = a.fits;
      count_fits =
          (let one : 1 < 2 ^ 64 = omega arith in one);
      names = inl (refl, a.spelled);
    })
    | inr never ↦ inr (λ first count p q names. let one = names_one text first count l names in never first p one.1)
  ]
]

-- ---- A line

-- the line says something
record SaysSomething (line : List ℕ) : Type 0 where
  first : ℕ
  count : ℕ
  asked : Op
  says : Says line first count asked

says_of_parts : (line holders name : List ℕ) (first count : ℕ) (asked : Op) → Lacks 32 holders
    → line ≡ holders ++ 32 ∷ name → name ≡ operation_name asked → first < 2 ^ 64 → count < 2 ^ 64
    → NamesHolders holders first count → SaysSomething line ⊎ IsBadLine line
says_of_parts line holders name first count asked l e is p q names = elim (cases_lt count 1) [
  | inl none ↦ inr (bad_of_none line holders name first count l e p q names (omega arith))
  | inr some ↦ elim (cases_lt HOLDERS (first + count)) [
    | inl far ↦ inr (bad_of_far line holders name first count l e p q names far)
    | inr near ↦ inl (record {
      first = first;
      count = count;
      asked = asked;
      says =
          record {
            some = some;
            named = near;
            holders = holders;
            names = names;
            text =
                e ∙ ap (λ (t : List ℕ). holders ++ 32 ∷ t) is;
          };
    })
  ]
]

says_or_bad : (line : List ℕ) → SaysSomething line ⊎ IsBadLine line
says_or_bad line = elim (cut_or_lacks 32 line) [
  | inl w ↦ elim (name_or_none_of w.back all_operations) [
    | inl a ↦ elim (holders_or_none w.front) [
      | inl b ↦ says_of_parts line w.front w.back b.first b.count a.asked w.first w.are a.spelled b.first_fits
          b.count_fits b.names
      | inr never ↦ inr (λ first count asked says. let parts =
          says_by_parts line w.front w.back first count asked w.first w.are says in
          never first count parts.first_fits parts.count_fits parts.names)
    ]
    | inr never ↦ inr (λ first count asked says. let parts =
        says_by_parts line w.front w.back first count asked w.first w.are says in
        is_no_name w.back never asked parts.named)
  ]
  | inr l ↦ inr (λ first count asked says. says_with_space line first count asked l says)
]

-- ---- Each script has a text

pub some_text : (lines : List (List ℕ)) (number : ℕ) (state : LockState)
    → (text : List ℕ) × (end : End) × Prints number state lines text end
some_text [] number state = ([], Whole, whole)
some_text (line ∷ lines) number state = elim (cases_lt MAX_LINES number) [
  | inl late ↦ (printed_of_bad_line number, BadLine number, bad (inl late))
  | inr few ↦ elim (says_or_bad line) [
    | inl s ↦ (let rest = some_text lines (number + 1) (state_after state (events_of s.first s.count s.asked)) in (
      printed_of_events state s.first s.count s.asked
          ++ rest.0,
      rest.1,
      good s.first s.count s.asked rest.0 few s.says rest.2,
    ))
    | inr b ↦ (printed_of_bad_line number, BadLine number, bad (inr b))
  ]
]

-- ---- A script has one text

not_good_and_bad : (number first count : ℕ) (asked : Op) (line : List ℕ) → number ≤ MAX_LINES
    → Says line first count asked → (MAX_LINES < number) ⊎ IsBadLine line → ⊥
not_good_and_bad number first count asked line few says =
    elim [ inl late ↦ omega arith | inr b ↦ b first count asked says ]

pub one_text : (number : ℕ) (state : LockState) (lines : List (List ℕ)) (text text' : List ℕ) (end end' : End)
    → Prints number state lines text end → Prints number state lines text' end' → (text ≡ text') × (end ≡ end')
one_text number state [] _ _ _ _ whole whole = (refl, refl)
one_text number state (line ∷ lines) _ _ end end' (good first count asked text few says p)
    (good first' count' asked' text' few' says' p') =
    let same = says_once line first count first' count' asked asked' says says' in
    let p1 : Prints (number + 1) (state_after state (events_of first count' asked')) lines text' end' =
    subst (λ (x : ℕ). Prints (number + 1) (state_after state (events_of x count' asked')) lines text' end')
    (sym same.0) p' in
    let p2 : Prints (number + 1) (state_after state (events_of first count asked')) lines text' end' =
    subst (λ (x : ℕ). Prints (number + 1) (state_after state (events_of first x asked')) lines text' end')
    (sym same.1) p1 in
    let p3 : Prints (number + 1) (state_after state (events_of first count asked)) lines text' end' =
    subst (λ (x : Op). Prints (number + 1) (state_after state (events_of first count x)) lines text' end')
    (sym same.2) p2 in
    let rest =
    one_text (number + 1) (state_after state (events_of first count asked)) lines text text' end end' p p3 in (
      ap (λ (x : ℕ). printed_of_events state x count asked ++ text) same.0
          ∙ ap (λ (x : ℕ). printed_of_events state first' x asked ++ text) same.1
          ∙ ap (λ (x : Op). printed_of_events state first' count' x ++ text) same.2
          ∙ ap (λ (x : List ℕ). printed_of_events state first' count' asked' ++ x) rest.0,
      rest.1,
    )
one_text number state (line ∷ lines) _ _ _ _ (good first count asked text few says p) (bad why) =
    absurd (not_good_and_bad number first count asked line few says why)
one_text number state (line ∷ lines) _ _ _ _ (bad why) (good first count asked text few says p) =
    absurd (not_good_and_bad number first count asked line few says why)
one_text number state (line ∷ lines) _ _ _ _ (bad why) (bad why') = (refl, refl)

-- ---- Only the first bad line counts

-- a bad line has the number of the first line or a later one
bad_number : (number : ℕ) (state : LockState) (lines : List (List ℕ)) (text : List ℕ) (k : ℕ)
    → Prints number state lines text (BadLine k) → number ≤ k
bad_number number state [] text k p = elim p [ ]
bad_number number state (line ∷ lines) _ k (good first count asked text few says p) =
    let later : number + 1 ≤ k =
    bad_number (number + 1) (state_after state (events_of first count asked)) lines text k p in omega arith
bad_number number state (line ∷ lines) _ _ (bad why) = omega arith

-- lists that begin with the same so many, of which there is one at least
record SameFirst (line : List ℕ) (lines others : List (List ℕ)) (n : ℕ) : Type 0 where
  rest : List (List ℕ)
  are : others ≡ line ∷ rest
  same : take n lines ≡ take n rest

same_first : (line : List ℕ) (lines others : List (List ℕ)) (n : ℕ) → take (suc n) (line ∷ lines) ≡ take (suc n) others
    → SameFirst line lines others n
same_first line lines [] n e = absurd (cc)
same_first line lines (other ∷ others) n e =
    let first : line ≡ other = cc in
    record { rest = others; are = ap (λ (l : List ℕ). l ∷ others) (sym first); same = cc }

pub same_text : (number : ℕ) (state : LockState) (lines others : List (List ℕ)) (text : List ℕ) (k n : ℕ)
    → Prints number state lines text (BadLine k) → suc k ≡ number + n → take n lines ≡ take n others
    → Prints number state others text (BadLine k)
same_text number state [] others text k n p e t = elim p [ ]
same_text number state (line ∷ lines) others _ k zero (good first count asked text few says p) e t =
    let later : number + 1 ≤ k =
    bad_number (number + 1) (state_after state (events_of first count asked)) lines text k p in absurd (omega arith)
same_text number state (line ∷ lines) others _ k (suc n) (good first count asked text few says p) e t =
    let s = same_first line lines others n t in
    let rest = same_text (number + 1) (state_after state (events_of first count asked)) lines s.rest text k n p
    (omega arith) s.same in
    subst (λ (ls : List (List ℕ)). Prints number state ls (printed_of_events state first count asked ++ text)
    (BadLine k)) (sym s.are) (good first count asked text few says rest)
same_text number state (line ∷ lines) others _ _ zero (bad why) e t = absurd (omega arith)
same_text number state (line ∷ lines) others _ _ (suc n) (bad why) e t =
    let s = same_first line lines others n t in
    subst (λ (ls : List (List ℕ)). Prints number state ls (printed_of_bad_line number) (BadLine number)) (sym s.are)
    (bad why)
