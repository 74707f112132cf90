-- One line of a rules file after the other.
use Rattle.std.specs.Prelude.{◌≡◌, ◌≢◌, ◌+◌, ◌≤◌, ◌<◌, ◌∷◌, ◌++◌, ◌&&◌, ◌==◌}
use Rattle.relay_admin.specs.declared.rules.file.TheConstants.{MAX_BYTES, MAX_RULES}
use Rattle.relay_admin.proofs.Words.{◌∙◌, sym, ap, refl, subst, ℕ, List, [], length}
use Rattle.relay_admin.proofs.Words.{get_or, Bool, true, false, Some, None, arith, length-append, append-nil}
use Rattle.relay_admin.proofs.Words.{append_assoc, bytes_eq, map-append, length-map, Any-from_list_any}
use Rattle.relay_admin.proofs.Words.{list_any_at, all_pairs_push, nat_tests, lines_of, lines_of-ended_line}
use Rattle.relay_admin.proofs.Words.{lines_of-last_line, Address, tcp, tcp6, unix, Entry, IsSkipped, SpellsRule, Spell}
use Rattle.relay_admin.proofs.Words.{nothing, skipped, rule, entry_of, entries_of, CanStandTogether, HasName, LacksName}
use Rattle.relay_admin.proofs.Words.{HasListen, LacksListen, LineFault, bad_line, too_many, same_name, same_listen}
use Rattle.relay_admin.proofs.Words.{FirstFault, SaysRules, SaysFault, split_at_first, is_skipped, same_address}
use Rattle.relay_admin.proofs.Words.{finds_name, finds_listen, TakesGoodLine, skips, adds, Rule, RulesFault}
use Rattle.relay_admin.specs.declared.rules.file.RulesFault.TheVariants as faults
use Rattle.relay_admin.proofs.TextLemmas.{number_same, number_itself, number_below, same_bytes, bytes_itself}
use Rattle.relay_admin.proofs.TextLemmas.{split_sound, split_none}

-- ---- The first line of a text

pub first_line_cut : (text : List ℕ) (parts : List ℕ × List ℕ) → split_at_first 10 text ≡ Some parts
    → lines_of text ≡ parts.0 ∷ lines_of parts.1
first_line_cut text parts e = let split = split_sound 10 text parts e in ap lines_of split.0
    ∙ lines_of-ended_line parts.0 parts.1 split.1

pub first_line_shorter : (text : List ℕ) (parts : List ℕ × List ℕ) → split_at_first 10 text ≡ Some parts
    → length parts.1 < length text
first_line_shorter text parts e = let split : text ≡ parts.0 ++ 10 ∷ parts.1 =
    (split_sound 10 text parts e).0 in omega (arith, ap length split, length-append parts.0 (10 ∷ parts.1))

pub last_line_cut : (text : List ℕ) → split_at_first 10 text ≡ None → 0 < length text
    → lines_of text ≡ text ∷ lines_of []
last_line_cut text e some = lines_of-last_line text (split_none 10 text e) some

-- ---- The tests on a line, and what they mean

pub skipped_is : (line : List ℕ) → is_skipped line ≡ true → IsSkipped line
skipped_is [] e = tt
skipped_is (byte ∷ line) e = grind (arith, nat_tests)

pub not_skipped : (line : List ℕ) → is_skipped line ≡ false → IsSkipped line → ⊥
not_skipped [] e h = absurd (cc)
not_skipped (byte ∷ line) e h = grind (arith, nat_tests)

three : (p q r : Bool) → (p && q && r) ≡ true → (p ≡ true) × (q ≡ true) × (r ≡ true)
three true true r e = (refl, refl, e)
three true false r e = absurd (cc)
three false q r e = absurd (cc)

five : (p q r s t : Bool) → (p && q && r && s && t) ≡ true → (p ≡ true) × (q ≡ true) × (r ≡ true) × (s ≡ true)
    × (t ≡ true)
five true true true true t e = (refl, refl, refl, refl, e)
five true true true false t e = absurd (cc)
five true true false s t e = absurd (cc)
five true false r s t e = absurd (cc)
five false q r s t e = absurd (cc)

pub address_same : (one other : Address) → same_address one other ≡ true → one ≡ other
address_same (tcp a b c d port) (tcp e f g h other) t =
    let p = five (a == e) (b == f) (c == g) (d == h) (port == other) t in
    let p0 = number_same a e p.0 in
    let p1 = number_same b f p.1 in
    let p2 = number_same c g p.2 in
    let p3 = number_same d h p.3 in
    let p4 = number_same port other p.4 in
    cc
address_same (tcp6 ip scope port) (tcp6 other_ip other_scope other_port) t =
    let p = three (bytes_eq ip other_ip) (scope == other_scope) (port == other_port) t in
    let p0 = same_bytes ip other_ip p.0 in
    let p1 = number_same scope other_scope p.1 in
    let p2 = number_same port other_port p.2 in
    cc
address_same (unix path) (unix other) t = ap unix (same_bytes path other t)
address_same (tcp a b c d port) (tcp6 ip scope other) t = absurd (cc)
address_same (tcp6 ip scope other) (tcp a b c d port) t = absurd (cc)
address_same (tcp a b c d port) (unix path) t = absurd (cc)
address_same (unix path) (tcp a b c d port) t = absurd (cc)
address_same (tcp6 ip scope port) (unix path) t = absurd (cc)
address_same (unix path) (tcp6 ip scope port) t = absurd (cc)

pub address_itself : (one : Address) → same_address one one ≡ true
address_itself (tcp a b c d port) =
    rw (number_itself a, number_itself b, number_itself c, number_itself d, number_itself port) refl
address_itself (tcp6 ip scope port) = rw (bytes_itself ip, number_itself scope, number_itself port) refl
address_itself (unix path) = bytes_itself path

pub has_name_is : (name : List ℕ) (entries : List Entry) → finds_name name entries ≡ true → HasName entries name
has_name_is name entries e =
    let found = Any-from_list_any (λ (entry : Entry). bytes_eq entry.name name) entries e in
    (found.0, found.1, found.2, found.3, same_bytes found.1.name name found.4)

pub lacks_name_is : (name : List ℕ) (entries : List Entry) → finds_name name entries ≡ false → LacksName entries name
lacks_name_is name entries e = λ k d within same.
    let test : bytes_eq (get_or entries k d).name name ≡ true = ap (λ (n : List ℕ). bytes_eq n name) same
    ∙ bytes_itself name in
    let found : true ≡ false = sym (list_any_at (λ (entry : Entry). bytes_eq entry.name name) entries k d within test)
    ∙ e in
    absurd (cc)

pub has_listen_is : (one : Entry) (entries : List Entry) → finds_listen one.listen entries ≡ true
    → HasListen entries one
has_listen_is one entries e =
    let found = Any-from_list_any (λ (entry : Entry). same_address entry.listen one.listen) entries e in
    (found.0, found.1, found.2, found.3, address_same found.1.listen one.listen found.4)

pub lacks_listen_is : (one : Entry) (entries : List Entry) → finds_listen one.listen entries ≡ false
    → LacksListen entries one
lacks_listen_is one entries e = λ k d within same.
    let test : same_address (get_or entries k d).listen one.listen ≡ true =
    ap (λ (a : Address). same_address a one.listen) same ∙ address_itself one.listen in
    let found : true ≡ false =
    sym (list_any_at (λ (entry : Entry). same_address entry.listen one.listen) entries k d within test) ∙ e in
    absurd (cc)

-- ---- Rules of the program, and what they say

pub entries-push : (rules : List Rule) (one : Rule) → entries_of (rules ++ one ∷ []) ≡ entries_of rules
    ++ entry_of one ∷ []
entries-push rules one = map-append entry_of rules (one ∷ [])

pub is_full : (rules : List Rule) (full : Bool) → full ≡ (length rules == MAX_RULES) → full ≡ true
    → MAX_RULES ≤ length (entries_of rules)
is_full rules full is e = let count = length-map rules entry_of in let n : length rules ≡ MAX_RULES =
    number_same (length rules) MAX_RULES (sym is ∙ e) in omega arith

pub has_room : (rules : List Rule) (full : Bool) → full ≡ (length rules == MAX_RULES) → full ≡ false
    → length rules ≤ MAX_RULES
    → length (entries_of rules) < MAX_RULES
has_room rules full is e few = let count = length-map rules entry_of in let n : length rules < MAX_RULES =
    number_below (length rules) MAX_RULES (sym is ∙ e) few in omega arith

-- a test on a borrowed slice is one on the rules themselves
pub on_slice : (test : List Entry → Bool) (rules slice : List Rule) (b c : Bool) → slice ≡ rules
    → b ≡ test (entries_of slice) → b ≡ c → test (entries_of rules) ≡ c
on_slice test rules slice b c same is e = ap (λ (r : List Rule). test (entries_of r)) (sym same) ∙ sym is ∙ e

pub added : (rules after : List Rule) (line : List ℕ) (one : Rule) → after ≡ rules ++ one ∷ []
    → SpellsRule line (entry_of one) → length (entries_of rules) < MAX_RULES
    → LacksName (entries_of rules) (entry_of one).name
    → LacksListen (entries_of rules) (entry_of one) → TakesGoodLine (entries_of rules) (entries_of after) line
added rules after line one is spells few name listen =
    subst (λ (entries : List Entry). TakesGoodLine (entries_of rules) entries line)
    (sym (ap entries_of is ∙ entries-push rules one)) (adds (entry_of one) spells few name listen)

-- ---- The lines so far

pub together_more : (before after : List Entry) (line : List ℕ) → TakesGoodLine before after line
    → CanStandTogether before → CanStandTogether after
together_more before _ line (skips is) h = h
together_more before _ line (adds one spells few name listen) h = record {
  few = omega (arith, length-append before (one ∷ []));
  names =
      all_pairs_push (λ (a : Entry) (b : Entry). a.name ≢ b.name) before one h.names (λ k d within. name k d within);
  listens = all_pairs_push (λ (a : Entry) (b : Entry). a.listen ≢ b.listen) before one h.listens
      (λ k d within. listen k d within);
}

spell_skip : (front : List (List ℕ)) (entries : List Entry) (line : List ℕ) → Spell front entries → IsSkipped line
    → Spell (front ++ line ∷ []) entries
spell_skip _ _ line nothing is = skipped is nothing
spell_skip _ _ line (skipped {lines = lines} {entries = entries} here more) is =
    skipped here (spell_skip lines entries line more is)
spell_skip _ _ line (rule {lines = lines} {entries = entries} here more) is =
    rule here (spell_skip lines entries line more is)

spell_add : (front : List (List ℕ)) (entries : List Entry) (line : List ℕ) (one : Entry) → Spell front entries
    → SpellsRule line one → Spell (front ++ line ∷ []) (entries ++ one ∷ [])
spell_add _ _ line one nothing is = rule is nothing
spell_add _ _ line one (skipped {lines = lines} {entries = entries} here more) is =
    skipped here (spell_add lines entries line one more is)
spell_add _ _ line one (rule {lines = lines} {entries = entries} here more) is =
    rule here (spell_add lines entries line one more is)

pub spell_more : (front : List (List ℕ)) (before after : List Entry) (line : List ℕ) → TakesGoodLine before after line
    → Spell front before → Spell (front ++ line ∷ []) after
spell_more front before _ line (skips is) h = spell_skip front before line h is
spell_more front before _ line (adds one spells few name listen) h = spell_add front before line one h spells

-- the lines so far, and what is left of the text
pub record SoFar (text rest : List ℕ) (number : ℕ) (entries : List Entry) : Type 0 where
  pub front : List (List ℕ)
  pub cut : lines_of text ≡ front ++ lines_of rest
  pub counted : number ≡ length front + 1
  pub spelled : Spell front entries
  pub together : CanStandTogether entries

pub nothing_yet : (text : List ℕ) → SoFar text text 1 []
nothing_yet text = record {
  front = [];
  cut = refl;
  counted = refl;
  spelled = nothing;
  together =
      record {
        few = omega arith;
        names = λ i j d below within. absurd (omega arith);
        listens =
            λ i j d below within. absurd (omega arith);
      };
}

pub one_line_more : (text rest line after : List ℕ) (number number' : ℕ) (before entries : List Entry)
    → SoFar text rest number before → lines_of rest ≡ line ∷ lines_of after → TakesGoodLine before entries line
    → number' ≡ number + 1 → SoFar text after number' entries
one_line_more text rest line after number number' before entries h first takes next = record {
  front = h.front ++ line ∷ [];
  cut = h.cut ∙ ap (λ (lines : List (List ℕ)). h.front ++ lines) first
      ∙ sym (append_assoc h.front (line ∷ []) (lines_of after));
  counted = let counted = h.counted in omega (arith, length-append h.front (line ∷ []));
  spelled = spell_more h.front before entries line takes h.spelled;
  together = together_more before entries line takes h.together;
}

pub all_lines : (text rest : List ℕ) (number : ℕ) (entries : List Entry) → length text ≤ MAX_BYTES
    → SoFar text rest number entries → length rest ≡ 0 → SaysRules text entries
all_lines text [] number entries short h none = record {
  short = short;
  spelled = subst (λ (lines : List (List ℕ)). Spell lines entries) (sym (h.cut ∙ append-nil h.front)) h.spelled;
  together = h.together;
}
all_lines text (byte ∷ rest) number entries short h none = absurd (omega arith)

is_line_fault : (before : List Entry) (line : List ℕ) (n : ℕ) (fault : RulesFault) → LineFault before line n fault
    → fault ≡ faults.TooLong → ⊥
is_line_fault _ _ _ _ (bad_line a b) e = absurd (cc)
is_line_fault _ _ _ _ (too_many one a b) e = absurd (cc)
is_line_fault _ _ _ _ (same_name one a b d) e = absurd (cc)
is_line_fault _ _ _ _ (same_listen one a b d f) e = absurd (cc)

says_first : (text : List ℕ) (fault : RulesFault) → length text ≤ MAX_BYTES → FirstFault (lines_of text) fault
    → SaysFault text fault
says_first text faults.TooLong short h = absurd (is_line_fault _ _ _ faults.TooLong h.faulty refl)
says_first text (faults.BadLine n) short h = (short, h)
says_first text (faults.TooMany n) short h = (short, h)
says_first text (faults.SameName n) short h = (short, h)
says_first text (faults.SameListen n) short h = (short, h)

pub faulty_line : (text rest line after : List ℕ) (number : ℕ) (before : List Entry) (fault : RulesFault)
    → length text ≤ MAX_BYTES → SoFar text rest number before → lines_of rest ≡ line ∷ lines_of after
    → LineFault before line number fault → SaysFault text fault
faulty_line text rest line after number before fault short h first faulty = says_first text fault short (record {
  front = h.front;
  line = line;
  rest = lines_of after;
  before = before;
  cut = h.cut ∙ ap (λ (lines : List (List ℕ)). h.front ++ lines) first;
  spelled = h.spelled;
  together = h.together;
  faulty = subst (λ (n : ℕ). LineFault before line n fault) h.counted faulty;
})

pub empty_text : (text : List ℕ) (empty : Bool) → empty ≡ (length text == 0) → empty ≡ true → length text ≡ 0
empty_text text empty is e = number_same (length text) 0 (sym is ∙ e)
