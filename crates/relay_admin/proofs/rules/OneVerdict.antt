-- A text has one verdict.
use Rattle.std.specs.Prelude.{◌≡◌, ◌+◌, ◌≤◌, ◌<◌, ◌∷◌, ◌++◌, ◌⊎◌}
use Rattle.relay_admin.specs.declared.rules.file.TheConstants.{MAX_BYTES, MAX_RULES}
use Rattle.relay_admin.proofs.Words.{◌∙◌, sym, ap, refl, subst, ℕ, suc, List, [], length}
use Rattle.relay_admin.proofs.Words.{Some, Ok, Err, arith, length-append, append-nil, append_assoc, inl, inr}
use Rattle.relay_admin.proofs.Words.{Result, get_or-append_seam, get_or_append_left, lines_of}
use Rattle.relay_admin.specs.rules.Addr.{Address, IsAddress, address_text}
use Rattle.relay_admin.specs.rules.Grammar.{Entry, IsSkipped, SpellsRule, Spell, nothing, skipped, rule}
use Rattle.relay_admin.specs.rules.Fault.{CanStandTogether, HasName, LacksName, HasListen, LacksListen, LineFault}
use Rattle.relay_admin.specs.rules.Fault.{bad_line, too_many, same_name, same_listen, FirstFault, SaysRules, SaysFault}
use Rattle.relay_admin.specs.rules.Reading.{address_at, rule_at}
use Rattle.relay_admin.specs.declared.rules.file.RulesFault.{RulesFault}
use Rattle.relay_admin.specs.declared.rules.file.RulesFault.TheVariants as faults
use Rattle.relay_admin.proofs.rules.Complete.{address_complete, rule_complete}

pub one_address : (one other : Address) → IsAddress one → IsAddress other → address_text one ≡ address_text other
    → one ≡ other
one_address one other is is' e = let read : Some one ≡ Some other = sym (address_complete one is) ∙ ap address_at e
    ∙ address_complete other is' in cc

pub one_rule : (line : List ℕ) (one other : Entry) → SpellsRule line one → SpellsRule line other → one ≡ other
one_rule line one other h k =
    let read : Some one ≡ Some other = sym (rule_complete one h.fits) ∙ sym (ap rule_at h.text) ∙ ap rule_at k.text
    ∙ rule_complete other k.fits in cc

skipped_no_rule : (line : List ℕ) (entry : Entry) → IsSkipped line → SpellsRule line entry → ⊥
skipped_no_rule line entry is h = r_is_no_hash (subst IsSkipped h.text is)
  where
    r_is_no_hash : ◌≡◌ {A = ℕ} 114 35 → ⊥
    r_is_no_hash e = omega arith

has_and_lacks_name : (before : List Entry) (one other : Entry) → one ≡ other → HasName before one.name
    → LacksName before other.name → ⊥
has_and_lacks_name before one other e (k, entry, within, at, same) lacks =
    lacks k entry within (ap (λ (x : Entry). x.name) at ∙ same ∙ ap (λ (x : Entry). x.name) e)

has_and_lacks_listen : (before : List Entry) (one other : Entry) → one ≡ other → HasListen before one
    → LacksListen before other → ⊥
has_and_lacks_listen before one other e (k, entry, within, at, same) lacks =
    lacks k entry within (ap (λ (x : Entry). x.listen) at ∙ same ∙ ap (λ (x : Entry). x.listen) e)

-- ---- One fault a line

one_line_fault : (before : List Entry) (line : List ℕ) (n : ℕ) (f f' : RulesFault) → LineFault before line n f
    → LineFault before line n f' → f ≡ f'
one_line_fault before line n _ _ (bad_line a b) (bad_line a' b') = refl
one_line_fault before line n _ _ (bad_line a b) (too_many r s c) = absurd (b r s)
one_line_fault before line n _ _ (bad_line a b) (same_name r s c d) = absurd (b r s)
one_line_fault before line n _ _ (bad_line a b) (same_listen r s c d e) = absurd (b r s)
one_line_fault before line n _ _ (too_many r s c) (bad_line a b) = absurd (b r s)
one_line_fault before line n _ _ (too_many r s c) (too_many r' s' c') = refl
one_line_fault before line n _ _ (too_many r s c) (same_name r' s' c' d') = absurd (omega arith)
one_line_fault before line n _ _ (too_many r s c) (same_listen r' s' c' d' e') = absurd (omega arith)
one_line_fault before line n _ _ (same_name r s c d) (bad_line a b) = absurd (b r s)
one_line_fault before line n _ _ (same_name r s c d) (too_many r' s' c') = absurd (omega arith)
one_line_fault before line n _ _ (same_name r s c d) (same_name r' s' c' d') = refl
one_line_fault before line n _ _ (same_name r s c d) (same_listen r' s' c' d' e') =
    absurd (has_and_lacks_name before r r' (one_rule line r r' s s') d d')
one_line_fault before line n _ _ (same_listen r s c d e) (bad_line a b) = absurd (b r s)
one_line_fault before line n _ _ (same_listen r s c d e) (too_many r' s' c') = absurd (omega arith)
one_line_fault before line n _ _ (same_listen r s c d e) (same_name r' s' c' d') =
    absurd (has_and_lacks_name before r' r (one_rule line r' r s' s) d' d)
one_line_fault before line n _ _ (same_listen r s c d e) (same_listen r' s' c' d' e') = refl

fault_not_skipped : (before : List Entry) (line : List ℕ) (n : ℕ) (f : RulesFault) → LineFault before line n f
    → IsSkipped line → ⊥
fault_not_skipped before line n _ (bad_line a b) is = a is
fault_not_skipped before line n _ (too_many r s c) is = skipped_no_rule line r is s
fault_not_skipped before line n _ (same_name r s c d) is = skipped_no_rule line r is s
fault_not_skipped before line n _ (same_listen r s c d e) is = skipped_no_rule line r is s

-- the rule can stand after these
record CanFollow (before : List Entry) (one : Entry) : Type 0 where
  pub few : length before < MAX_RULES
  pub name : LacksName before one.name
  pub listen : LacksListen before one

fault_cannot_follow : (before : List Entry) (line : List ℕ) (n : ℕ) (f : RulesFault) (one : Entry)
    → LineFault before line n f → SpellsRule line one → CanFollow before one → ⊥
fault_cannot_follow before line n _ one (bad_line a b) spells can = b one spells
fault_cannot_follow before line n _ one (too_many r s c) spells can = let few : length before < MAX_RULES = can.few in
    omega arith
fault_cannot_follow before line n _ one (same_name r s c d) spells can =
    has_and_lacks_name before r one (one_rule line r one s spells) d can.name
fault_cannot_follow before line n _ one (same_listen r s c d e) spells can =
    has_and_lacks_listen before r one (one_rule line r one s spells) e can.listen

can_follow : (before after : List Entry) (one : Entry) → CanStandTogether (before ++ one ∷ after) → CanFollow before one
can_follow before after one h = record {
  few = let few = h.few in omega (arith, length-append before (one ∷ after));
  name = λ k d within same. h.names k (length before) d within (omega (arith, length-append before (one ∷ after)))
      (ap (λ (x : Entry). x.name) (get_or_append_left before (one ∷ after) d k within) ∙ same
      ∙ ap (λ (x : Entry). x.name) (sym (get_or-append_seam before one after d)));
  listen = λ k d within same. h.listens k (length before) d within (omega (arith, length-append before (one ∷ after)))
      (ap (λ (x : Entry). x.listen) (get_or_append_left before (one ∷ after) d k within) ∙ same
      ∙ ap (λ (x : Entry). x.listen) (sym (get_or-append_seam before one after d)));
}

-- ---- What lines say where rules stand before them and the first has this number

record GoodFrom (before : List Entry) (lines : List (List ℕ)) (all : List Entry) : Type 0 where
  pub more : List Entry
  pub is : all ≡ before ++ more
  pub spelled : Spell lines more
  pub together : CanStandTogether (before ++ more)

record FaultFrom (n : ℕ) (before : List Entry) (lines : List (List ℕ)) (fault : RulesFault) : Type 0 where
  pub front : List (List ℕ)
  pub line : List ℕ
  pub rest : List (List ℕ)
  pub more : List Entry
  pub cut : lines ≡ front ++ line ∷ rest
  pub spelled : Spell front more
  pub together : CanStandTogether (before ++ more)
  pub faulty : LineFault (before ++ more) line (n + length front) fault

abbrev OutcomeFrom : ℕ → List Entry → List (List ℕ) → Result (List Entry) RulesFault → Type 0
OutcomeFrom n before lines (Ok all) = GoodFrom before lines all
OutcomeFrom n before lines (Err fault) = FaultFrom n before lines fault

-- the first line is skipped
record Skips (n : ℕ) (before : List Entry) (line : List ℕ) (lines : List (List ℕ))
    (r : Result (List Entry) RulesFault) : Type 0 where
  pub is : IsSkipped line
  pub then : OutcomeFrom (n + 1) before lines r

-- the first line adds a rule
record Adds (n : ℕ) (before : List Entry) (line : List ℕ) (lines : List (List ℕ))
    (r : Result (List Entry) RulesFault) : Type 0 where
  pub one : Entry
  pub spells : SpellsRule line one
  pub can : CanFollow before one
  pub then : OutcomeFrom (n + 1) (before ++ one ∷ []) lines r

-- the first line has the fault
record Fails (n : ℕ) (before : List Entry) (line : List ℕ) (r : Result (List Entry) RulesFault) : Type 0 where
  pub fault : RulesFault
  pub is : r ≡ Err fault
  pub faulty : LineFault before line n fault

abbrev FirstStep : ℕ → List Entry → List ℕ → List (List ℕ) → Result (List Entry) RulesFault → Type 0
FirstStep n before line lines r = Skips n before line lines r ⊎ (Adds n before line lines r ⊎ Fails n before line r)

regrouped : (before more : List Entry) (one : Entry) → before ++ one ∷ more ≡ (before ++ one ∷ []) ++ more
regrouped before more one = sym (append_assoc before (one ∷ []) more)

good_step : (n : ℕ) (before : List Entry) (line : List ℕ) (lines : List (List ℕ)) (all more : List Entry)
    → all ≡ before ++ more → Spell (line ∷ lines) more → CanStandTogether (before ++ more)
    → FirstStep n before line lines (Ok all)
good_step n before line lines all _ is (skipped {entries = more} here rest) together =
    inl (record { is = here; then = record { more = more; is = is; spelled = rest; together = together } })
good_step n before line lines all _ is (rule {entry = one} {entries = more} here rest) together =
    inr (inl (record {
      one = one;
      spells = here;
      can = can_follow before more one together;
      then =
          record {
            more = more;
            is = is ∙ regrouped before more one;
            spelled = rest;
            together =
                subst CanStandTogether (regrouped before more one) together;
          };
    }))

further : (before : List Entry) (line : List ℕ) (n k : ℕ) (fault : RulesFault) → LineFault before line (n + suc k) fault
    → LineFault before line (n + 1 + k) fault
further before line n k fault h =
    subst (λ (m : ℕ). LineFault before line m fault) (let e : n + suc k ≡ n + 1 + k = omega arith in e) h

here_fault : (n : ℕ) (before more : List Entry) (line line' : List ℕ) (fault : RulesFault) → line ≡ line'
    → Spell [] more → LineFault (before ++ more) line' (n + 0) fault → LineFault before line n fault
here_fault n before _ line line' fault same nothing h =
    subst (λ (l : List ℕ). LineFault before l n fault) (sym same)
    (subst (λ (es : List Entry). LineFault es line' n fault) (append-nil before)
    (subst (λ (m : ℕ). LineFault (before ++ []) line' m fault) (let e : n + 0 ≡ n = omega arith in e) h))

later_fault : (n : ℕ) (before : List Entry) (line : List ℕ) (lines : List (List ℕ)) (f : List ℕ) (front : List (List ℕ))
    (line' : List ℕ) (rest : List (List ℕ)) (more : List Entry) (fault : RulesFault)
    → line ≡ f → lines ≡ front ++ line' ∷ rest → Spell (f ∷ front) more → CanStandTogether (before ++ more)
    → LineFault (before ++ more) line' (n + suc (length front)) fault → FirstStep n before line lines (Err fault)
later_fault n before line lines f front line' rest _ fault same cut (skipped {entries = more} here spelled) together
    faulty =
    inl (record {
      is = subst IsSkipped (sym same) here;
      then =
          record {
            front = front;
            line = line';
            rest = rest;
            more = more;
            cut = cut;
            spelled = spelled;
            together =
                together;
            faulty = further (before ++ more) line' n (length front) fault faulty;
          };
    })
later_fault n before line lines f front line' rest _ fault same cut (rule {entry = one} {entries = more} here spelled)
    together faulty =
    inr (inl (record {
      one = one;
      spells = subst (λ (l : List ℕ). SpellsRule l one) (sym same) here;
      can = can_follow before more one together;
      then = record {
        front = front;
        line = line';
        rest = rest;
        more = more;
        cut = cut;
        spelled = spelled;
        together = subst CanStandTogether (regrouped before more one) together;
        faulty =
            subst (λ (es : List Entry). LineFault es line' (n + 1 + length front) fault) (regrouped before more one)
            (further (before ++ one ∷ more) line' n (length front) fault faulty);
      };
    }))

fault_step : (n : ℕ) (before : List Entry) (line : List ℕ) (lines : List (List ℕ)) (fault : RulesFault)
    (front : List (List ℕ)) (line' : List ℕ) (rest : List (List ℕ)) (more : List Entry)
    → line ∷ lines ≡ front ++ line' ∷ rest → Spell front more → CanStandTogether (before ++ more)
    → LineFault (before ++ more) line' (n + length front) fault → FirstStep n before line lines (Err fault)
fault_step n before line lines fault [] line' rest more cut spelled together faulty =
    let same : line ≡ line' = cc in
    inr (inr (record {
      fault = fault;
      is = refl;
      faulty =
          here_fault n before more line line' fault same spelled faulty;
    }))
fault_step n before line lines fault (f ∷ front) line' rest more cut spelled together faulty =
    let same : line ≡ f = cc in
    let cut' : lines ≡ front ++ line' ∷ rest = cc in
    later_fault n before line lines f front line' rest more fault same cut' spelled together faulty

first_step : (n : ℕ) (before : List Entry) (line : List ℕ) (lines : List (List ℕ)) (r : Result (List Entry) RulesFault)
    → OutcomeFrom n before (line ∷ lines) r → FirstStep n before line lines r
first_step n before line lines (Ok all) h = good_step n before line lines all h.more h.is h.spelled h.together
first_step n before line lines (Err fault) h =
    fault_step n before line lines fault h.front h.line h.rest h.more h.cut h.spelled h.together h.faulty

no_lines : (n : ℕ) (before : List Entry) (r : Result (List Entry) RulesFault) → OutcomeFrom n before [] r
    → r ≡ Ok before
no_lines n before (Ok all) h = ap (λ (es : List Entry). Ok es) (h.is ∙ of_none h.more h.spelled)
  where
    of_none : (more : List Entry) → Spell [] more → before ++ more ≡ before
    of_none _ nothing = append-nil before
no_lines n before (Err fault) h = absurd (none_in h.front h.cut)
  where
    none_in : (front : List (List ℕ)) → [] ≡ front ++ h.line ∷ h.rest → ⊥
    none_in [] e = absurd (cc)
    none_in (f ∷ front) e = absurd (cc)

one_outcome : (n : ℕ) (before : List Entry) (lines : List (List ℕ)) (r r' : Result (List Entry) RulesFault)
    → OutcomeFrom n before lines r → OutcomeFrom n before lines r' → r ≡ r'
one_outcome n before [] r r' h h' = no_lines n before r h ∙ sym (no_lines n before r' h')
one_outcome n before (line ∷ lines) r r' h h' =
    compared (λ (b : List Entry) x y. one_outcome (n + 1) b lines r r' x y) (first_step n before line lines r h)
    (first_step n before line lines r' h')
  where
    compared : ((b : List Entry) → OutcomeFrom (n + 1) b lines r → OutcomeFrom (n + 1) b lines r' → r ≡ r')
        → FirstStep n before line lines r → FirstStep n before line lines r' → r ≡ r'
    compared again (inl x) (inl y) = again before x.then y.then
    compared again (inl x) (inr (inl y)) = absurd (skipped_no_rule line y.one x.is y.spells)
    compared again (inl x) (inr (inr y)) = absurd (fault_not_skipped before line n y.fault y.faulty x.is)
    compared again (inr (inl x)) (inl y) = absurd (skipped_no_rule line x.one y.is x.spells)
    compared again (inr (inl x)) (inr (inl y)) =
        again (before ++ x.one ∷ []) x.then (subst (λ (e : Entry). OutcomeFrom (n + 1) (before ++ e ∷ []) lines r')
        (one_rule line y.one x.one y.spells x.spells) y.then)
    compared again (inr (inl x)) (inr (inr y)) =
        absurd (fault_cannot_follow before line n y.fault x.one y.faulty x.spells x.can)
    compared again (inr (inr x)) (inl y) = absurd (fault_not_skipped before line n x.fault x.faulty y.is)
    compared again (inr (inr x)) (inr (inl y)) =
        absurd (fault_cannot_follow before line n x.fault y.one x.faulty y.spells y.can)
    compared again (inr (inr x)) (inr (inr y)) =
        x.is ∙ ap (λ (f : RulesFault). Err f) (one_line_fault before line n x.fault y.fault x.faulty y.faulty)
        ∙ sym y.is

-- ---- Whole texts

of_rules : (text : List ℕ) (entries : List Entry) → SaysRules text entries
    → OutcomeFrom 1 [] (lines_of text) (Ok entries)
of_rules text entries h = record { more = entries; is = refl; spelled = h.spelled; together = h.together }

of_first_fault : (lines : List (List ℕ)) (fault : RulesFault) → FirstFault lines fault
    → OutcomeFrom 1 [] lines (Err fault)
of_first_fault lines fault h = record {
  front = h.front;
  line = h.line;
  rest = h.rest;
  more = h.before;
  cut = h.cut;
  spelled = h.spelled;
  together = h.together;
  faulty =
      subst (λ (m : ℕ). LineFault h.before h.line m fault)
      (let e : length h.front + 1 ≡ 1 + length h.front = omega arith in e) h.faulty;
}

-- the text is too long, or its first faulty line has the fault
of_fault : (text : List ℕ) (fault : RulesFault) → SaysFault text fault
    → ((MAX_BYTES < length text) × (fault ≡ faults.TooLong))
    ⊎ ((length text ≤ MAX_BYTES) × OutcomeFrom 1 [] (lines_of text) (Err fault))
of_fault text faults.TooLong h = inl (h, refl)
of_fault text (faults.BadLine n) h = inr (h.0, of_first_fault (lines_of text) (faults.BadLine n) h.1)
of_fault text (faults.TooMany n) h = inr (h.0, of_first_fault (lines_of text) (faults.TooMany n) h.1)
of_fault text (faults.SameName n) h = inr (h.0, of_first_fault (lines_of text) (faults.SameName n) h.1)
of_fault text (faults.SameListen n) h = inr (h.0, of_first_fault (lines_of text) (faults.SameListen n) h.1)

pub one_list_of_rules : (text : List ℕ) (one other : List Entry) → SaysRules text one → SaysRules text other
    → one ≡ other
one_list_of_rules text one other h k =
    let outcome : Result (List Entry) RulesFault = Ok one in
    let same : outcome ≡ Ok other =
    one_outcome 1 [] (lines_of text) (Ok one) (Ok other) (of_rules text one h) (of_rules text other k) in
    cc

pub one_fault : (text : List ℕ) (one other : RulesFault) → SaysFault text one → SaysFault text other → one ≡ other
one_fault text one other h k = compared (of_fault text one h) (of_fault text other k)
  where
    compared : ((MAX_BYTES < length text) × (one ≡ faults.TooLong))
        ⊎ ((length text ≤ MAX_BYTES) × OutcomeFrom 1 [] (lines_of text) (Err one))
        → ((MAX_BYTES < length text) × (other ≡ faults.TooLong))
        ⊎ ((length text ≤ MAX_BYTES) × OutcomeFrom 1 [] (lines_of text) (Err other)) → one ≡ other
    compared (inl x) (inl y) = x.1 ∙ sym y.1
    compared (inl x) (inr y) = let long : MAX_BYTES < length text = x.0 in let short : length text ≤ MAX_BYTES = y.0 in
        absurd (omega arith)
    compared (inr x) (inl y) = let long : MAX_BYTES < length text = y.0 in let short : length text ≤ MAX_BYTES = x.0 in
        absurd (omega arith)
    compared (inr x) (inr y) =
        let outcome : Result (List Entry) RulesFault = Err one in
        let same : outcome ≡ Err other = one_outcome 1 [] (lines_of text) (Err one) (Err other) x.1 y.1 in
        cc

pub no_rules_with_fault : (text : List ℕ) (entries : List Entry) (fault : RulesFault) → SaysRules text entries
    → SaysFault text fault → ⊥
no_rules_with_fault text entries fault h k = compared (of_fault text fault k)
  where
    compared : ((MAX_BYTES < length text) × (fault ≡ faults.TooLong))
        ⊎ ((length text ≤ MAX_BYTES) × OutcomeFrom 1 [] (lines_of text) (Err fault)) → ⊥
    compared (inl x) = let long : MAX_BYTES < length text = x.0 in
        let short : length text ≤ MAX_BYTES = h.short in omega arith
    compared (inr x) =
        let outcome : Result (List Entry) RulesFault = Ok entries in
        let same : outcome ≡ Err fault =
        one_outcome 1 [] (lines_of text) (Ok entries) (Err fault) (of_rules text entries h) x.1 in
        absurd (cc)
