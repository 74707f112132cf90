-- A line spells one header.
use Rattle.std.proofs.Common.{◌≡◌, ◌∙◌, sym, ap, refl, subst, ℕ, List, ◌∷◌, ◌++◌, get_or, drop, Bool, true, false, Option, Some, None, arith, inl, inr}
use Rattle.std.specs.Prelude.{codes, MatchOption}
use Rattle.std.specs.Str.{bytes_eq}
use Rattle.std.proofs.lemmas.Slice.Eq.{bytes_eq-Decides}
use Rattle.std.specs.Net.Grammar.{IsIpv4Text, IsIpv6Text}
use Rattle.std.proofs.NetLemmas.Theorems.{IsIpv4Text_unique, IsIpv6Text_unique}
use Rattle.proxy_header.specs.HeaderReading.{word}
use Rattle.proxy_header.specs.Line.{SaysUnknown, SpellsLine, SpellsV4, SpellsV6}
use Rattle.proxy_header.specs.declared.header.EndsV4.{EndsV4}
use Rattle.proxy_header.specs.declared.header.EndsV6.{EndsV6}
use Rattle.proxy_header.specs.declared.header.Header.{Header}
use Rattle.proxy_header.specs.declared.header.Header.TheVariants.{Local, Unknown, V4, V6, Unix}
use Rattle.proxy_header.proofs.Ends.{parts_are, words_complete}

-- each line of version 1 begins with its word
pub spelled_word : (line : List ℕ) (said : Header) → SpellsLine line said → (rest : List ℕ) × (line ≡ word ++ rest)
spelled_word line (V4 ends) h = (codes "TCP4 " ++ h.0, h.1)
spelled_word line (V6 ends) h = (codes "TCP6 " ++ h.0, h.1)
spelled_word line Unknown (inl e) = (codes "UNKNOWN", e)
spelled_word line Unknown (inr r) = (codes "UNKNOWN " ++ r.0, r.1)
spelled_word line Local h = absurd h
spelled_word line (Unix names) h = absurd h

same_v4 : (text : List ℕ) (a b : EndsV4) → SpellsV4 text a → SpellsV4 text b → a ≡ b
same_v4 text a b h k =
    let e = words_complete text _ _ a.source_port a.destination_port h in
    let p = parts_are text _ _ _ b.source_port b.destination_port e k in
    let s = IsIpv4Text_unique h.source a.source b.source h.is_source
    (subst (λ (t : List ℕ). IsIpv4Text t b.source) p.0 k.is_source) in
    let d = IsIpv4Text_unique h.destination a.destination b.destination h.is_destination
    (subst (λ (t : List ℕ). IsIpv4Text t b.destination) p.1 k.is_destination) in
    let m = sym p.2 in
    let n = sym p.3 in
    λ i. record { source = s i; source_port = m i; destination = d i; destination_port = n i }

same_v6 : (text : List ℕ) (a b : EndsV6) → SpellsV6 text a → SpellsV6 text b → a ≡ b
same_v6 text a b h k =
    let e = words_complete text _ _ a.source_port a.destination_port h in
    let p = parts_are text _ _ _ b.source_port b.destination_port e k in
    let s = IsIpv6Text_unique h.source a.source b.source h.is_source
    (subst (λ (t : List ℕ). IsIpv6Text t b.source) p.0 k.is_source) in
    let d = IsIpv6Text_unique h.destination a.destination b.destination h.is_destination
    (subst (λ (t : List ℕ). IsIpv6Text t b.destination) p.1 k.is_destination) in
    let m = sym p.2 in
    let n = sym p.3 in
    λ i. record { source = s i; source_port = m i; destination = d i; destination_port = n i }

-- the tenth byte of a line, which tells its kind
tenth : (line front : List ℕ) → line ≡ front → get_or line 9 0 ≡ get_or front 9 0
tenth line front e = ap (λ (t : List ℕ). get_or t 9 0) e

unknown_tenth : (line : List ℕ) → SaysUnknown line → get_or line 9 0 ≡ 78
unknown_tenth line (inl e) = tenth line _ e
unknown_tenth line (inr r) = tenth line _ r.1

pub v4_tenth : (line : List ℕ) (ends : EndsV4) → SpellsLine line (V4 ends) → get_or line 9 0 ≡ 52
v4_tenth line ends h = tenth line _ h.1

pub v6_tenth : (line : List ℕ) (ends : EndsV6) → SpellsLine line (V6 ends) → get_or line 9 0 ≡ 54
v6_tenth line ends h = tenth line _ h.1

pub text_behind : (line front text text' : List ℕ) → (n : ℕ) → line ≡ front ++ text → line ≡ front ++ text'
    → drop n (front ++ text) ≡ text → drop n (front ++ text') ≡ text' → text ≡ text'
text_behind line front text text' n e e' d d' = sym d ∙ ap (λ (t : List ℕ). drop n t) (sym e ∙ e') ∙ d'

pub one_line : (line : List ℕ) (a b : Header) → SpellsLine line a → SpellsLine line b → a ≡ b
one_line line (V4 a) (V4 b) h k =
    let same : k.0 ≡ h.0 = text_behind line (codes "PROXY TCP4 ") k.0 h.0 11 k.1 h.1 refl refl in
    ap V4 (same_v4 h.0 a b h.2 (subst (λ (t : List ℕ). SpellsV4 t b) same k.2))
one_line line (V6 a) (V6 b) h k =
    let same : k.0 ≡ h.0 = text_behind line (codes "PROXY TCP6 ") k.0 h.0 11 k.1 h.1 refl refl in
    ap V6 (same_v6 h.0 a b h.2 (subst (λ (t : List ℕ). SpellsV6 t b) same k.2))
one_line line Unknown Unknown h k = refl
one_line line (V4 a) (V6 b) h k = absurd (let x = v4_tenth line a h in let y = v6_tenth line b k in omega arith)
one_line line (V6 a) (V4 b) h k = absurd (let x = v6_tenth line a h in let y = v4_tenth line b k in omega arith)
one_line line (V4 a) Unknown h k = absurd (let x = v4_tenth line a h in let y = unknown_tenth line k in omega arith)
one_line line Unknown (V4 b) h k = absurd (let x = v4_tenth line b k in let y = unknown_tenth line h in omega arith)
one_line line (V6 a) Unknown h k = absurd (let x = v6_tenth line a h in let y = unknown_tenth line k in omega arith)
one_line line Unknown (V6 b) h k = absurd (let x = v6_tenth line b k in let y = unknown_tenth line h in omega arith)
one_line line Local b h k = absurd h
one_line line (Unix names) b h k = absurd h
one_line line a Local h k = absurd k
one_line line a (Unix names) h k = absurd k

-- ---- What the code read

pub none_spelled : (line : List ℕ) → ((ends : EndsV4) → SpellsLine line (V4 ends) → ⊥)
    → ((ends : EndsV6) → SpellsLine line (V6 ends) → ⊥) → (SaysUnknown line → ⊥) → (said : Header) → SpellsLine line said → ⊥
none_spelled line v4 v6 unknown (V4 ends) h = v4 ends h
none_spelled line v4 v6 unknown (V6 ends) h = v6 ends h
none_spelled line v4 v6 unknown Unknown h = unknown h
none_spelled line v4 v6 unknown Local h = h
none_spelled line v4 v6 unknown (Unix names) h = h

pub v4_behind : (line text : List ℕ) (r : Option EndsV4) → line ≡ codes "PROXY TCP4 " ++ text
    → MatchOption r ((ends : EndsV4) → SpellsV4 text ends → ⊥) (λ ends. SpellsV4 text ends)
    → MatchOption r ((ends : EndsV4) → SpellsLine line (V4 ends) → ⊥) (λ ends. SpellsLine line (V4 ends))
v4_behind line text (Some ends) e h = (text, e, h)
v4_behind line text None e h = λ ends k.
    let same : k.0 ≡ text = text_behind line (codes "PROXY TCP4 ") k.0 text 11 k.1 e refl refl in
    h ends (subst (λ (t : List ℕ). SpellsV4 t ends) same k.2)

pub v6_behind : (line text : List ℕ) (r : Option EndsV6) → line ≡ codes "PROXY TCP6 " ++ text
    → MatchOption r ((ends : EndsV6) → SpellsV6 text ends → ⊥) (λ ends. SpellsV6 text ends)
    → MatchOption r ((ends : EndsV6) → SpellsLine line (V6 ends) → ⊥) (λ ends. SpellsLine line (V6 ends))
v6_behind line text (Some ends) e h = (text, e, h)
v6_behind line text None e h = λ ends k.
    let same : k.0 ≡ text = text_behind line (codes "PROXY TCP6 ") k.0 text 11 k.1 e refl refl in
    h ends (subst (λ (t : List ℕ). SpellsV6 t ends) same k.2)

pub says_it : (line : List ℕ) (r : Bool) → bytes_eq line (codes "PROXY UNKNOWN") ≡ false
    → ((rest : List ℕ) → line ≡ codes "PROXY UNKNOWN " ++ rest → r ≡ true) → SaysUnknown line → r ≡ true
says_it line r other starts (inl e) =
    absurd (let t : true ≡ false = sym ((bytes_eq-Decides line (codes "PROXY UNKNOWN")).1 e) ∙ other in cc)
says_it line r other starts (inr rest) = starts rest.0 rest.1
