-- Two addresses and two ports are read from their text, and from no other.
use Rattle.std.proofs.Common.{◌≡◌, ◌≢◌, ◌∙◌, sym, ap, subst, ℕ, ◌≤◌, List, ◌∷◌, ◌++◌, true, Some, None, arith}
use Rattle.std.specs.Char.{is_ascii_digit}
use Rattle.std.specs.Fmt.{decimal}
use Rattle.std.proofs.lemmas.Bool.Decides.{nat_tests}
use Rattle.stream_base.specs.Lines.{Lacks}
use Rattle.text_reading.specs.Reading.{◌>>=◌, number_within, split_at_first}
use Rattle.text_reading.proofs.TextLemmas.{bind_is, bind_some, split_complete, split_sound}
use Rattle.text_reading.proofs.NumberLemmas.{Lacks-decimal, within_complete, within_sound}
use Rattle.proxy_header.specs.Line.{SpellsEnds, ends_text, space, words_at}

-- two words and two ports
abbrev pub Parts : Type 0
Parts = List ℕ × List ℕ × ℕ × ℕ

-- the text is that of these parts
abbrev pub IsRead : List ℕ → Parts → Type 0
IsRead text w = (text ≡ ends_text w.0 w.1 w.2 w.3) × Lacks space w.0 × Lacks space w.1 × (w.2 ≤ 65535) × (w.3 ≤ 65535)

digit_no_space : (x : ℕ) → is_ascii_digit x ≡ true → x ≢ 32
digit_no_space x e same = grind (arith, nat_tests)

ends_read : (s d : List ℕ) (m n : ℕ) → Lacks space s → Lacks space d → m ≤ 65535 → n ≤ 65535
    → words_at (ends_text s d m n) ≡ Some (s, d, m, n)
unfolding words_at
ends_read s d m n no_space no_space' small small' =
    bind_is _ _ _ (split_complete space s (d ++ space ∷ (decimal m ++ space ∷ decimal n)) no_space)
    ∙ bind_is _ _ _ (split_complete space d (decimal m ++ space ∷ decimal n) no_space')
    ∙ bind_is _ _ _ (split_complete space (decimal m) (decimal n) (Lacks-decimal space m digit_no_space (omega arith)))
    ∙ bind_is _ _ _ (within_complete 0 65535 m (omega arith) (omega arith) small)
    ∙ bind_is _ _ _ (within_complete 0 65535 n (omega arith) (omega arith) small')

pub words_complete : (text : List ℕ) (P Q : List ℕ → Type 0) (m n : ℕ) (h : SpellsEnds text P Q m n)
    → words_at text ≡ Some (h.source, h.destination, m, n)
words_complete text P Q m n h =
    ap words_at h.spelled
    ∙ ends_read h.source h.destination m n h.source_is_a_word h.destination_is_a_word h.ports.0 h.ports.1

pub words_sound : (text : List ℕ) (w : Parts) → words_at text ≡ Some w → IsRead text w
unfolding words_at
words_sound text w e =
    let first = bind_some (split_at_first space text) _ w e in
    let second = bind_some (split_at_first space first.0.1) _ w first.2 in
    let third = bind_some (split_at_first space second.0.1) _ w second.2 in
    let m = bind_some (number_within 0 65535 third.0.0) _ w third.2 in
    let n = bind_some (number_within 0 65535 third.0.1) _ w m.2 in
    let text_s = split_sound space text first.0 first.1 in
    let text_d = split_sound space first.0.1 second.0 second.1 in
    let text_p = split_sound space second.0.1 third.0 third.1 in
    let is_m = within_sound 0 65535 third.0.0 m.0 m.1 in
    let is_n = within_sound 0 65535 third.0.1 n.0 n.1 in
    joined text first.0.0 first.0.1 second.0.0 second.0.1 third.0.0 third.0.1 m.0 n.0 w n.2 text_s.0 text_d.0 text_p.0
    is_m.0 is_n.0 text_s.1 text_d.1 is_m.2 is_n.2
  where
    joined : (text s st d dt p pt : List ℕ) (m n : ℕ) (w : Parts) → Some (s, d, m, n) ≡ Some w
        → text ≡ s ++ space ∷ st → st ≡ d ++ space ∷ dt → dt ≡ p ++ space ∷ pt → p ≡ decimal m → pt ≡ decimal n
        → Lacks space s → Lacks space d → m ≤ 65535 → n ≤ 65535 → IsRead text w
    joined text s st d dt p pt m n w is e1 e2 e3 f1 f2 no_space no_space' small small' =
        let same : (s, d, m, n) ≡ w = cc in
        let spelled : text ≡ ends_text s d m n = cc in
        subst (IsRead text) same (spelled, no_space, no_space', small, small')

-- what a text's parts are, whoever says so
pub parts_are : (text : List ℕ) (w : Parts) (P Q : List ℕ → Type 0) (m n : ℕ) → words_at text ≡ Some w
    → (h : SpellsEnds text P Q m n) → (h.source ≡ w.0) × (h.destination ≡ w.1) × (m ≡ w.2) × (n ≡ w.3)
parts_are text w P Q m n e h =
    let both : Some (h.source, h.destination, m, n) ≡ Some w = sym (words_complete text P Q m n h) ∙ e in
    let same : (h.source, h.destination, m, n) ≡ w = cc in
    (ap (λ (x : Parts). x.0) same, ap (λ (x : Parts). x.1) same, ap (λ (x : Parts). x.2) same, ap (λ (x : Parts). x.3) same)

-- a text that isn't read is no text of two ends
pub not_read : (text : List ℕ) (P Q : List ℕ → Type 0) (m n : ℕ) → words_at text ≡ None → SpellsEnds text P Q m n → ⊥
not_read text P Q m n none h =
    let parts : Parts = (h.source, h.destination, m, n) in
    let both : Some parts ≡ None = sym (words_complete text P Q m n h) ∙ none in
    absurd (cc)
