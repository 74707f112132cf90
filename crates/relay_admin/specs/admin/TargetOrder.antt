-- What an operator sets of a target, and the words by which a command names the target.
use Rattle.std.specs.Prelude.{◌≡◌, ◌-◌, ◌&&◌, ℕ, zero, suc, Bool, true, List, [], ◌∷◌, ◌++◌, Option, Some, None}
use Rattle.std.specs.Prelude.{codes, length, nat_le, nat_lt, replicate, if◌then◌else◌}
use Rattle.std.specs.List.{list_all}
use Rattle.std.specs.Str.{bytes_eq}
use Rattle.relay_admin.specs.TextReading.{◌>>=◌, split_at_first}
use Rattle.relay_admin.specs.declared.admin.target_order.Order.{Order}
use Rattle.relay_admin.specs.declared.admin.target_order.Order.TheVariants.{Auto, Up, Drain, Down}
use Rattle.relay_admin.specs.declared.admin.target_order.TargetOrder.{TargetOrder}
use Rattle.relay_admin.specs.declared.admin.target_order.TheConstants.{MAX_TARGET_BYTES}
use Rattle.relay_admin.specs.declared.rules.rule.TheConstants.{MAX_NAME_BYTES}
use Rattle.relay_admin.specs.rules.Addr.{is_visible}
use Rattle.relay_admin.specs.rules.Grammar.{is_name, space}

-- the word of what is set
abbrev pub order_word : Order → List ℕ
order_word Auto = codes "auto"
order_word Up = codes "up"
order_word Drain = codes "drain"
order_word Down = codes "down"

-- the word in a room: the bytes before the first zero
abbrev pub room_word : List ℕ → List ℕ
room_word [] = []
room_word (zero ∷ room) = []
room_word (suc byte ∷ room) = suc byte ∷ room_word room

-- the name of the rule, and the word that names the target
abbrev pub rule_word : TargetOrder → List ℕ
rule_word order = room_word order.rule

abbrev pub target_word : TargetOrder → List ℕ
target_word order = room_word order.target

-- a room of so many bytes with this word, and zeros behind it
abbrev pub room_of : ℕ → List ℕ → List ℕ
room_of size word = word ++ replicate (size - length word) 0

-- bytes from ! to ~, at least one, and as many as the word of a target may have
abbrev pub is_target_word : List ℕ → Bool
is_target_word word = nat_lt 0 (length word) && (list_all is_visible word && nat_le (length word) MAX_TARGET_BYTES)

-- a name of the rules file's grammar, and such a word, each in its room
pub record IsTargetOrder (order : TargetOrder) : Type 0 where
  pub rule : is_name (rule_word order) ≡ true
  pub target : is_target_word (target_word order) ≡ true
  pub rule_room : order.rule ≡ room_of MAX_NAME_BYTES (rule_word order)
  pub target_room : order.target ≡ room_of MAX_TARGET_BYTES (target_word order)

-- the three words, each behind a space
abbrev pub order_text : TargetOrder → List ℕ
order_text order =
    space ∷ (rule_word order ++ space ∷ (target_word order ++ space ∷ order_word order.order))

-- ---- Reading from left to right, as the code does

-- what is set by this word
unfoldable pub order_at : List ℕ → Option Order
order_at word =
    if bytes_eq word (codes "auto") then Some Auto
    else if bytes_eq word (codes "up") then Some Up
    else if bytes_eq word (codes "drain") then Some Drain
    else if bytes_eq word (codes "down") then Some Down
    else None

-- a target by these words, each in its room
abbrev pub ordered : List ℕ → List ℕ → Order → TargetOrder
ordered rule target order =
    record { rule = room_of MAX_NAME_BYTES rule; target = room_of MAX_TARGET_BYTES target; order = order }

-- a target and what is set of it, by its three words
unfoldable pub target_order_at : List ℕ → Option TargetOrder
target_order_at text = do
  first ← split_at_first space text
  second ← split_at_first space first.1
  order ← order_at second.1
  if is_name first.0 && is_target_word second.0 then Some (ordered first.0 second.0 order) else None
