-- What the commands do with a store, and what they answer.
use Rattle.std.specs.Prelude.{◌≡◌, ℕ, List, ◌++◌, codes, decimal, string_bytes, String}
use Rattle.std.specs.Prelude.{Option, Some, None, if◌then◌else◌}
use Rattle.std.specs.BTreeMap.{BTreeMap, get_by_text, btree_map_len}
use Rattle.std.specs.Option.{option_map}
use Rattle.std.specs.Str.{bytes_eq}
use Rattle.key_values.specs.declared.command.Command.{Command}
use Rattle.key_values.specs.declared.command.Command.TheVariants as command

-- what a look for a key answers
abbrev pub value_line : Option (List ℕ) → List ℕ
value_line (Some text) = codes "VALUE " ++ (text ++ codes "\n")
value_line None = codes "NONE\n"

-- whether a key was there
abbrev pub removal_line : Option (List ℕ) → List ℕ
removal_line (Some _) = codes "OK\n"
removal_line None = codes "NONE\n"

-- what a command leaves at a key, where this was before
abbrev pub left_at : Command → List ℕ → Option (List ℕ) → Option (List ℕ)
left_at (command.Set key value) at old = if bytes_eq key.now at then Some value.now else old
left_at (command.Del key) at old = if bytes_eq key.now at then None else old
left_at _ at old = old

module _ {A : Type 0} where
  -- the text at a key
  abbrev pub text_at : BTreeMap (String A) (String A) → List ℕ → Option (List ℕ)
  text_at store key = option_map string_bytes (get_by_text store key)

  -- what a command answers of a store
  abbrev pub reply_of : BTreeMap (String A) (String A) → Command → List ℕ
  reply_of store (command.Set key value) = codes "OK\n"
  reply_of store (command.Get key) = value_line (text_at store key.now)
  reply_of store (command.Del key) = removal_line (text_at store key.now)
  reply_of store command.Count = codes "COUNT " ++ (decimal (btree_map_len store) ++ codes "\n")
  reply_of store command.Quit = codes "BYE\n"
  reply_of store command.Shutdown = codes "BYE\n"

  -- a command makes this store of that one
  abbrev pub Does : Command → BTreeMap (String A) (String A) → BTreeMap (String A) (String A) → Type 0
  Does command old new = (at : List ℕ) → text_at new at ≡ left_at command at (text_at old at)
