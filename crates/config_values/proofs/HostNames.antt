-- The labels of a name, part by part; and its bytes.
use Rattle.std.proofs.Common.{◌≡◌, ◌≢◌, ◌∙◌, sym, ap, refl, ℕ, List, [], ◌∷◌, ◌++◌, true, false, not, ◌&&◌, ◌||◌, Bool, arith, inl, inr}
use Rattle.std.proofs.lemmas.Bool.{cases_eq}
use Rattle.std.specs.Prelude.{◌==◌, ◌⊎◌, if◌then◌else◌}
use Rattle.std.proofs.lemmas.Bool.Decides.{nat_tests}
use Rattle.stream_base.specs.Lines.{Lacks}
use Rattle.text_reading.specs.Reading.{Splits}
use Rattle.std.specs.Char.{is_ascii_digit}
use Rattle.std.specs.List.{list_all}
use Rattle.std.specs.Prelude.{nat_le, slice_index, ◌-◌, ◌≤◌, length}
use Rattle.text_reading.proofs.TextLemmas.{both, both_true}
use Rattle.config_values.specs.Addr.{is_visible}
use Rattle.config_values.specs.HostName.{are_labels, is_alphanumeric, is_host_name, is_label, is_label_byte, labels_of, onto_head}
use Rattle.config_values.specs.declared.host_name.TheConstants.{MAX_LABEL_BYTES, MAX_NAME_BYTES}

label_here : (text : List ℕ) → labels_of (46 ∷ text) ≡ [] ∷ labels_of text
unfolding labels_of
label_here text = refl

label_later : (byte : ℕ) (text : List ℕ) → byte ≢ 46 → labels_of (byte ∷ text) ≡ onto_head byte (labels_of text)
unfolding labels_of
label_later byte text other = by_test (byte == 46) (grind (arith, nat_tests))
  where
    by_test : (b : Bool) → b ≡ false → (if b then [] ∷ labels_of text else onto_head byte (labels_of text))
        ≡ onto_head byte (labels_of text)
    by_test b e = rw e refl

labels_parted : (front rest : List ℕ) → Lacks 46 front → labels_of (front ++ 46 ∷ rest) ≡ front ∷ labels_of rest
labels_parted [] rest lacks = label_here rest
labels_parted (byte ∷ front) rest lacks =
    label_later byte (front ++ 46 ∷ rest) lacks.0 ∙ ap (onto_head byte) (labels_parted front rest lacks.1)

pub labels_split : (text : List ℕ) (parts : List ℕ × List ℕ) → Splits 46 text parts → labels_of text ≡ parts.0 ∷ labels_of parts.1
labels_split text parts split = ap labels_of split.0 ∙ labels_parted parts.0 parts.1 split.1

pub labels_alone : (text : List ℕ) → Lacks 46 text → labels_of text ≡ text ∷ []
unfolding labels_of
labels_alone [] lacks = refl
labels_alone (byte ∷ text) lacks = label_later byte text lacks.0 ∙ ap (onto_head byte) (labels_alone text lacks.1)

some_label : (text : List ℕ) → (label : List ℕ) × (labels : List (List ℕ)) × (labels_of text ≡ label ∷ labels)
unfolding labels_of
some_label [] = ([], [], refl)
some_label (byte ∷ text) = by_test (byte == 46)
  where
    onto : (parts : List (List ℕ)) → (label : List ℕ) × (labels : List (List ℕ)) × (onto_head byte parts ≡ label ∷ labels)
    onto [] = (byte ∷ [], [], refl)
    onto (part ∷ parts) = (byte ∷ part, parts, refl)

    by_test : (b : Bool) → (label : List ℕ) × (labels : List (List ℕ))
        × ((if b then [] ∷ labels_of text else onto_head byte (labels_of text)) ≡ label ∷ labels)
    by_test true = ([], labels_of text, refl)
    by_test false = onto (labels_of text)

-- a label before others
pub labels_first : (label rest : List ℕ) → are_labels (label ∷ labels_of rest) ≡ (is_label label && are_labels (labels_of rest))
labels_first label rest =
    let s = some_label rest in
    ap (λ (ls : List (List ℕ)). are_labels (label ∷ ls)) s.2 ∙ ap (λ (ls : List (List ℕ)). is_label label && are_labels ls) (sym s.2)

-- ---- What the loop over the labels knows

pub part_is_bad : (text rest label behind : List ℕ) (b : Bool) → are_labels (labels_of text) ≡ are_labels (labels_of rest)
    → Splits 46 rest (label, behind) → b ≡ is_label label → b ≡ false → false ≡ are_labels (labels_of text)
part_is_bad text rest label behind b before split is bad =
    let here : are_labels (labels_of text) ≡ (is_label label && are_labels (labels_of behind)) =
    before ∙ ap are_labels (labels_split rest (label, behind) split) ∙ labels_first label behind in
    sym (here ∙ ap (λ (x : Bool). x && are_labels (labels_of behind)) (sym is ∙ bad))

pub part_is_good : (text rest label behind : List ℕ) (b : Bool) → are_labels (labels_of text) ≡ are_labels (labels_of rest)
    → Splits 46 rest (label, behind) → b ≡ is_label label → b ≡ true → are_labels (labels_of text) ≡ are_labels (labels_of behind)
part_is_good text rest label behind b before split is good =
    let here : are_labels (labels_of text) ≡ (is_label label && are_labels (labels_of behind)) =
    before ∙ ap are_labels (labels_split rest (label, behind) split) ∙ labels_first label behind in
    here ∙ ap (λ (x : Bool). x && are_labels (labels_of behind)) (sym is ∙ good)

pub last_part : (text rest : List ℕ) → are_labels (labels_of text) ≡ are_labels (labels_of rest) → Lacks 46 rest
    → are_labels (labels_of text) ≡ (is_label rest && not (list_all is_ascii_digit rest))
last_part text rest before lacks = before ∙ ap are_labels (labels_alone rest lacks)

-- ---- The bytes of a name

label_bytes : (label : List ℕ) → is_label label ≡ true → list_all is_label_byte label ≡ true
unfolding is_label
label_bytes label e =
    (both (nat_le 1 (length label) && nat_le (length label) MAX_LABEL_BYTES
    && is_alphanumeric (slice_index label 0) && is_alphanumeric (slice_index label (length label - 1)))
    (list_all is_label_byte label) e).1

have_label_bytes : (labels : List (List ℕ)) → are_labels labels ≡ true
    → list_all (λ (l : List ℕ). list_all is_label_byte l) labels ≡ true
have_label_bytes [] e = refl
have_label_bytes (label ∷ []) e =
    let p = both (is_label label) (not (list_all is_ascii_digit label)) e in
    both_true (list_all is_label_byte label) true (label_bytes label p.0) refl
have_label_bytes (label ∷ next ∷ labels) e =
    let p = both (is_label label) (are_labels (next ∷ labels)) e in
    both_true (list_all is_label_byte label) _ (label_bytes label p.0) (have_label_bytes (next ∷ labels) p.1)

-- a byte of a label, or "."
abbrev pub is_name_byte : ℕ → Bool
is_name_byte x = is_label_byte x || (x == 46)

label_byte_named : (x : ℕ) → is_label_byte x ≡ true → is_name_byte x ≡ true
label_byte_named x e = rw e refl

name_byte_visible : (x : ℕ) → is_name_byte x ≡ true → is_visible x ≡ true
name_byte_visible x e = grind (arith, nat_tests)

pub name_byte_no_colon : (x : ℕ) → is_name_byte x ≡ true → x ≢ 58
name_byte_no_colon x e same = grind (arith, nat_tests)

pub name_byte_no_bracket : (x : ℕ) → is_name_byte x ≡ true → x ≢ 91
name_byte_no_bracket x e same = grind (arith, nat_tests)

bytes_named : (text : List ℕ) → list_all (λ (l : List ℕ). list_all is_label_byte l) (labels_of text) ≡ true
    → list_all is_name_byte text ≡ true
bytes_named [] e = refl
bytes_named (byte ∷ text) e = by_case (λ h. bytes_named text h) (cases_eq byte 46)
  where
    onto : (parts : List (List ℕ)) → list_all (λ (l : List ℕ). list_all is_label_byte l) (onto_head byte parts) ≡ true
        → (is_label_byte byte ≡ true) × (list_all (λ (l : List ℕ). list_all is_label_byte l) parts ≡ true)
    onto [] h = ((both (is_label_byte byte) true (both (is_label_byte byte && true) true h).0).0, refl)
    onto (part ∷ parts) h =
        let p = both (is_label_byte byte && list_all is_label_byte part) (list_all (λ (l : List ℕ). list_all is_label_byte l) parts) h in
        let q = both (is_label_byte byte) (list_all is_label_byte part) p.0 in
        (q.0, both_true (list_all is_label_byte part) _ q.1 p.1)

    by_case : (list_all (λ (l : List ℕ). list_all is_label_byte l) (labels_of text) ≡ true → list_all is_name_byte text ≡ true)
        → (byte ≡ 46) ⊎ (byte ≡ 46 → ⊥) → list_all is_name_byte (byte ∷ text) ≡ true
    by_case later (inl same) =
        let labels = ap (λ (b : ℕ). labels_of (b ∷ text)) same ∙ label_here text in
        let h = ap (list_all (λ (l : List ℕ). list_all is_label_byte l)) (sym labels) ∙ e in
        both_true (is_name_byte byte) (list_all is_name_byte text) (ap is_name_byte same) (later h)
    by_case later (inr other) =
        let h = onto (labels_of text) (ap (list_all (λ (l : List ℕ). list_all is_label_byte l)) (sym (label_later byte text other)) ∙ e) in
        both_true (is_name_byte byte) (list_all is_name_byte text) (label_byte_named byte h.0) (later h.1)

pub name_bytes : (text : List ℕ) → is_host_name text ≡ true → list_all is_name_byte text ≡ true
unfolding is_host_name
name_bytes text e =
    bytes_named text (have_label_bytes (labels_of text) (both (nat_le (length text) MAX_NAME_BYTES) (are_labels (labels_of text)) e).1)

all_visible : (text : List ℕ) → list_all is_name_byte text ≡ true → list_all is_visible text ≡ true
all_visible [] e = refl
all_visible (x ∷ text) e =
    let p = both (is_name_byte x) (list_all is_name_byte text) e in
    both_true (is_visible x) (list_all is_visible text) (name_byte_visible x p.0) (all_visible text p.1)

pub name_visible : (text : List ℕ) → is_host_name text ≡ true → list_all is_visible text ≡ true
name_visible text e = all_visible text (name_bytes text e)

at_most : (n high : ℕ) → nat_le n high ≡ true → n ≤ high
at_most n high e = grind (arith, nat_tests)

pub name_short : (text : List ℕ) → is_host_name text ≡ true → length text ≤ MAX_NAME_BYTES
unfolding is_host_name
name_short text e = at_most (length text) MAX_NAME_BYTES (both (nat_le (length text) MAX_NAME_BYTES) (are_labels (labels_of text)) e).0
