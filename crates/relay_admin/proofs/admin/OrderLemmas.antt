-- The words of a target and of what is set of it: what is read is their text, and their text is read.
use Rattle.std.specs.Prelude.{◌≡◌, ◌≢◌, ◌≤◌, ◌<◌, ◌+◌, ◌-◌, ◌&&◌, ◌∷◌, ◌++◌, codes, if◌then◌else◌, replicate, nat_le, nat_lt}
use Rattle.std.proofs.Common.{zero, suc}
use Rattle.std.specs.List.{list_all}
use Rattle.std.proofs.lemmas.List.{drop_all, take_all}
use Rattle.std.specs.Str.{bytes_eq}
use Rattle.relay_admin.proofs.Words.{◌∙◌, sym, ap, refl, subst, ℕ, List, [], Bool, true, false, Option, Some, None, arith}
use Rattle.relay_admin.proofs.Words.{append-nil, append_assoc, drop, drop_more, get_or, length, space, split_at_first, take, take_more, Lacks}
use Rattle.relay_admin.specs.declared.admin.target_order.Order.{Order}
use Rattle.relay_admin.specs.declared.admin.target_order.Order.TheVariants.{Auto, Up, Drain, Down}
use Rattle.relay_admin.specs.declared.admin.target_order.TargetOrder.{TargetOrder}
use Rattle.relay_admin.specs.declared.admin.target_order.TheConstants.{MAX_TARGET_BYTES}
use Rattle.relay_admin.specs.declared.rules.rule.TheConstants.{MAX_NAME_BYTES}
use Rattle.relay_admin.specs.admin.TargetOrder.{IsTargetOrder, is_target_word, order_at, order_text, order_word}
use Rattle.relay_admin.specs.admin.TargetOrder.{ordered, room_of, rule_word, target_order_at, target_word, room_word}
use Rattle.relay_admin.specs.rules.Addr.{is_visible}
use Rattle.relay_admin.specs.rules.Grammar.{is_name}
use Rattle.relay_admin.proofs.GrammarBytes.{name_visible, visible_no_space}
use Rattle.relay_admin.proofs.TextLemmas.{bind_is, bind_some, both, both_true, guard_some, guard_true, same_bytes}
use Rattle.relay_admin.proofs.TextLemmas.{Lacks-from_list_all, split_complete, split_sound}

-- ---- The word in a room

no_word : (count : ℕ) → room_word (replicate count 0) ≡ []
no_word zero = refl
no_word (suc count) = refl

-- what comes behind a zero is no part of a word, and visible bytes are no zeros
zeros_behind : (word : List ℕ) (count : ℕ) → list_all is_visible word ≡ true → room_word (word ++ replicate count 0) ≡ word
zeros_behind [] count e = no_word count
zeros_behind (zero ∷ word) count e = absurd (cc)
zeros_behind (suc byte ∷ word) count e =
    ap (λ w. suc byte ∷ w) (zeros_behind word count (both (is_visible (suc byte)) (list_all is_visible word) e).1)

word_of_room : (size : ℕ) (word : List ℕ) → list_all is_visible word ≡ true → room_word (room_of size word) ≡ word
word_of_room size word e = zeros_behind word (size - length word) e

pub target_visible : (word : List ℕ) → is_target_word word ≡ true → list_all is_visible word ≡ true
target_visible word e =
    (both (list_all is_visible word) (nat_le (length word) MAX_TARGET_BYTES)
    (both (nat_lt 0 (length word)) (list_all is_visible word && nat_le (length word) MAX_TARGET_BYTES) e).1).0

lacks_space : (word : List ℕ) → list_all is_visible word ≡ true → Lacks space word
lacks_space word e = Lacks-from_list_all space is_visible word visible_no_space e

-- the loop that looks for the first zero

head_on : (byte : ℕ) (rest : List ℕ) → byte ≢ 0 → room_word (byte ∷ rest) ≡ byte ∷ room_word rest
head_on zero rest other = absurd (other refl)
head_on (suc byte) rest other = refl

head_zero : (byte : ℕ) (rest : List ℕ) → byte ≡ 0 → room_word (byte ∷ rest) ≡ []
head_zero zero rest is = refl
head_zero (suc byte) rest is = absurd (omega (arith, is))

pub word_on : (room : List ℕ) (i : ℕ) → i < length room → get_or room i 0 ≢ 0
    → room_word room ≡ take i room ++ room_word (drop i room)
    → room_word room ≡ take (i + 1) room ++ room_word (drop (i + 1) room)
word_on room i within other before =
    before
    ∙ ap (λ t. take i room ++ room_word t) (drop_more room i 0 within)
    ∙ ap (λ t. take i room ++ t) (head_on (get_or room i 0) (drop (i + 1) room) other)
    ∙ sym (append_assoc (take i room) (get_or room i 0 ∷ []) (room_word (drop (i + 1) room)))
    ∙ ap (λ t. t ++ room_word (drop (i + 1) room)) (sym (take_more room i 0 within))

pub word_found : (room : List ℕ) (i : ℕ) → i < length room → get_or room i 0 ≡ 0
    → room_word room ≡ take i room ++ room_word (drop i room) → take i room ≡ room_word room
word_found room i within same before =
    sym (before
    ∙ ap (λ t. take i room ++ room_word t) (drop_more room i 0 within)
    ∙ ap (λ t. take i room ++ t) (head_zero (get_or room i 0) (drop (i + 1) room) same)
    ∙ append-nil (take i room))

pub word_ends : (room : List ℕ) (i : ℕ) → length room ≤ i → room_word room ≡ take i room ++ room_word (drop i room)
    → room ≡ room_word room
word_ends room i past before =
    sym (before ∙ ap (λ t. take i room ++ room_word t) (drop_all i room past)
    ∙ append-nil (take i room) ∙ take_all i room past)

-- ---- What is set

order_of_word : (order : Order) → order_at (order_word order) ≡ Some order
unfolding order_at
order_of_word Auto = refl
order_of_word Up = refl
order_of_word Drain = refl
order_of_word Down = refl

-- one word more
by_row : (word row : List ℕ) (x order : Order) (others : Option Order) → row ≡ order_word x
    → (others ≡ Some order → word ≡ order_word order)
    → (if bytes_eq word row then Some x else others) ≡ Some order → word ≡ order_word order
by_row word row x order others is rest = by_test (bytes_eq word row) (same_bytes word row)
  where
    by_test : (b : Bool) → (b ≡ true → word ≡ row) → (if b then Some x else others) ≡ Some order
        → word ≡ order_word order
    by_test true same e =
        let found : x ≡ order = cc in
        same refl ∙ is ∙ ap order_word found
    by_test false same e = rest e

no_row : (word : List ℕ) (order : Order) → None ≡ Some order → word ≡ order_word order
no_row word order e = absurd (cc)

word_of_order : (word : List ℕ) (order : Order) → order_at word ≡ Some order → word ≡ order_word order
unfolding order_at
word_of_order word order =
    by_row word (codes "auto") Auto order _ refl
    (by_row word (codes "up") Up order _ refl
    (by_row word (codes "drain") Drain order _ refl
    (by_row word (codes "down") Down order _ refl (no_row word order))))

-- ---- The three words

words_are : (rule target : List ℕ) (order : Order) → is_name rule ≡ true → is_target_word target ≡ true
    → (rule_word (ordered rule target order) ≡ rule) × (target_word (ordered rule target order) ≡ target)
words_are rule target order is_rule is_target = (
  word_of_room MAX_NAME_BYTES rule (name_visible rule is_rule),
  word_of_room MAX_TARGET_BYTES target (target_visible target is_target),
)

is_ordered : (rule target : List ℕ) (order : Order) → is_name rule ≡ true → is_target_word target ≡ true
    → IsTargetOrder (ordered rule target order)
is_ordered rule target order is_rule is_target =
    let words = words_are rule target order is_rule is_target in
    record {
      rule = ap is_name words.0 ∙ is_rule;
      target = ap is_target_word words.1 ∙ is_target;
      rule_room = ap (room_of MAX_NAME_BYTES) (sym words.0);
      target_room = ap (room_of MAX_TARGET_BYTES) (sym words.1);
    }

ordered_text : (rule target : List ℕ) (order : Order) → is_name rule ≡ true → is_target_word target ≡ true
    → order_text (ordered rule target order) ≡ space ∷ (rule ++ space ∷ (target ++ space ∷ order_word order))
ordered_text rule target order is_rule is_target =
    let words = words_are rule target order is_rule is_target in
    ap (λ r. space ∷ (r ++ space ∷ (target_word (ordered rule target order) ++ space ∷ order_word order))) words.0
    ∙ ap (λ t. space ∷ (rule ++ space ∷ (t ++ space ∷ order_word order))) words.1

-- what is read is the text of a target's words
pub order_sound : (text : List ℕ) (order : TargetOrder) → target_order_at text ≡ Some order
    → (space ∷ text ≡ order_text order) × IsTargetOrder order
unfolding target_order_at
order_sound text order e =
    let first = bind_some (split_at_first space text) _ order e in
    let second = bind_some (split_at_first space first.0.1) _ order first.2 in
    let set = bind_some (order_at second.0.1) _ order second.2 in
    let good = guard_some (is_name first.0.0 && is_target_word second.0.0) (ordered first.0.0 second.0.0 set.0) order set.2 in
    let words = both (is_name first.0.0) (is_target_word second.0.0) good.0 in
    let cut : text ≡ first.0.0 ++ space ∷ (second.0.0 ++ space ∷ second.0.1) =
    (split_sound space text first.0 first.1).0
    ∙ ap (λ t. first.0.0 ++ space ∷ t) (split_sound space first.0.1 second.0 second.1).0 in
    let spelled : space ∷ text ≡ space ∷ (first.0.0 ++ space ∷ (second.0.0 ++ space ∷ order_word set.0)) =
    ap (λ t. space ∷ t) (cut
    ∙ ap (λ t. first.0.0 ++ space ∷ (second.0.0 ++ space ∷ t)) (word_of_order second.0.1 set.0 set.1)) in
    subst (λ (o : TargetOrder). (space ∷ text ≡ order_text o) × IsTargetOrder o) good.1 (
      spelled ∙ sym (ordered_text first.0.0 second.0.0 set.0 words.0 words.1),
      is_ordered first.0.0 second.0.0 set.0 words.0 words.1,
    )

-- a target by its rooms
abbrev roomed : Order → List ℕ → List ℕ → TargetOrder
roomed order rule target = record { rule = rule; target = target; order = order }

-- a target's words are those of their rooms
ordered_is : (order : TargetOrder) → IsTargetOrder order → ordered (rule_word order) (target_word order) order.order ≡ order
ordered_is order is =
    ap (λ rule. roomed order.order rule (room_of MAX_TARGET_BYTES (target_word order))) (sym is.rule_room)
    ∙ ap (λ target. roomed order.order order.rule target) (sym is.target_room)

-- the text of a target's words is read
pub order_complete : (text : List ℕ) (order : TargetOrder) → IsTargetOrder order → space ∷ text ≡ order_text order
    → target_order_at text ≡ Some order
unfolding target_order_at
order_complete text order is e =
    let rule = rule_word order in
    let target = target_word order in
    let spelled : text ≡ rule ++ space ∷ (target ++ space ∷ order_word order.order) = cc in
    ap target_order_at spelled
    ∙ bind_is _ _ _ (split_complete space rule _ (lacks_space rule (name_visible rule is.rule)))
    ∙ bind_is _ _ _ (split_complete space target _ (lacks_space target (target_visible target is.target)))
    ∙ bind_is _ _ _ (order_of_word order.order)
    ∙ guard_true (is_name rule && is_target_word target) (ordered rule target order.order)
    (both_true (is_name rule) (is_target_word target) is.rule is.target)
    ∙ ap Some (ordered_is order is)
