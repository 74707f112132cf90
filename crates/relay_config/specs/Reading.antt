-- Reading a table, key by key.
use Rattle.std.specs.Prelude.{ℕ, ℤ, pos, negsuc, List, [], ◌∷◌, ◌++◌, Bool, not, ◌&&◌, Option, Some, None, Result, Ok, Err, nat_le, if◌then◌else◌, suc}
use Rattle.std.specs.List.{list_any, position}
use Rattle.std.specs.Str.{bytes_eq}
use Rattle.toml.specs.Data.{Data, Items, Members, as_array, as_bool, as_integer, as_str, as_table, get_member, item, member, no_items, no_members}
use Rattle.relay_config.specs.Fault.{key_word, spot}
use Rattle.relay_config.specs.declared.fault.Fault.{Fault}
use Rattle.relay_config.specs.declared.fault.Fault.TheVariants.{At, Unknown}
use Rattle.relay_config.specs.declared.fault.Spot.{Spot}
use Rattle.relay_config.specs.declared.fault.Key.{Key}
use Rattle.relay_config.specs.declared.fault.Place.{Place}
use Rattle.relay_config.specs.declared.fault.Wrong.TheVariants as wrong

infixl 10 ◌>>=◌
-- reading on with what was read; the first fault is the answer
abbrev pub ◌>>=◌ : {A B : Type 0} → Result A Fault → (A → Result B Fault) → Result B Fault
(Ok x) >>= f = f x
(Err fault) >>= f = Err fault

-- the value, or the fault that there is none
abbrev pub or_fault : {A : Type 0} → Fault → Option A → Result A Fault
or_fault fault (Some x) = Ok x
or_fault fault None = Err fault

-- what the reader makes of a value, or nothing where there is none
abbrev pub if_there : {A : Type 0} → (Data → Result A Fault) → Option Data → Result (Option A) Fault
if_there read None = Ok None
if_there read (Some d) = read d >>= λ x. Ok (Some x)

-- the value at a key
abbrev pub at_key : Key → Members → Option Data
at_key key table = get_member (key_word key) table

-- the value that has to be there
abbrev pub needed : Spot → Option Data → Result Data Fault
needed at value = or_fault (At at wrong.Missing) value

-- a text
abbrev pub text : Spot → Data → Result (List ℕ) Fault
text at d = or_fault (At at wrong.Type) (as_str d)

-- what a text spells
abbrev pub spelled : {A : Type 0} → (List ℕ → Option A) → Spot → Data → Result A Fault
spelled read at d = text at d >>= λ bytes. or_fault (At at wrong.Value) (read bytes)

-- a whole number within bounds
abbrev pub whole_within : ℕ → ℕ → ℤ → Option ℕ
whole_within low high (pos n) = if nat_le low n && nat_le n high then Some n else None
whole_within low high (negsuc n) = None

-- a number within bounds
abbrev pub number : ℕ → ℕ → Spot → Data → Result ℕ Fault
number low high at d = or_fault (At at wrong.Type) (as_integer d) >>= λ n. or_fault (At at wrong.Value) (whole_within low high n)

-- true or false
abbrev pub flag : Spot → Data → Result Bool Fault
flag at d = or_fault (At at wrong.Type) (as_bool d)

-- a table
abbrev pub members : Spot → Data → Result Members Fault
members at d = or_fault (At at wrong.Type) (as_table d)

-- what is made of a table, or else the other answer
abbrev pub table_or : {A : Type 0} → (Members → Result A Fault) → Result A Fault → Option Members → Result A Fault
table_or read other (Some table) = read table
table_or read other None = other

-- how many items there are
abbrev pub item_count : Items → ℕ
item_count no_items = 0
item_count (item d ds) = suc (item_count ds)

-- a list of at most so many items
abbrev pub list : ℕ → Spot → Data → Result Items Fault
list most at d = or_fault (At at wrong.Type) (as_array d) >>= λ ds.
    if nat_le (item_count ds) most then Ok ds else Err (At at wrong.TooMany)

-- some items
abbrev pub some : Spot → Items → Result Items Fault
some at no_items = Err (At at wrong.Empty)
some at (item d ds) = Ok (item d ds)

-- a list of one item at least and at most so many
abbrev pub some_list : ℕ → Spot → Data → Result Items Fault
some_list most at d = list most at d >>= λ ds. some at ds

-- these, and those that the items say, each of which stands behind those before it
abbrev pub each_in : {A : Type 0} → (List A → Data → Result A Fault) → List A → Items → Result (List A) Fault
each_in step found no_items = Ok found
each_in step found (item d ds) = step found d >>= λ x. each_in step (found ++ x ∷ []) ds

-- the list that has to be at a key, of one item at least and at most so many
unfoldable pub some_items : ℕ → Place → Key → Members → Result Items Fault
some_items most place key table = do
  value ← needed (spot place key) (at_key key table)
  ds ← list most (spot place key) value
  some (spot place key) ds

-- no items, where there is no list
abbrev pub items_there : Option Items → Items
items_there None = no_items
items_there (Some ds) = ds

-- the list at a key, of at most so many items; none where there is no such key
unfoldable pub items_in : ℕ → Place → Key → Members → Result Items Fault
items_in most place key table = if_there (list most (spot place key)) (at_key key table) >>= λ found. Ok (items_there found)

-- the list at a key, of one item at least and at most so many; no items where there is no such key
unfoldable pub some_if_there : ℕ → Place → Key → Members → Result Items Fault
some_if_there most place key table = if_there (some_list most (spot place key)) (at_key key table) >>= λ found. Ok (items_there found)

-- the keys of a table, in their order
abbrev pub keys_in : Members → List (List ℕ)
keys_in no_members = []
keys_in (member key d table) = key ∷ keys_in table

-- the key is one of these
abbrev pub is_one_of : List Key → List ℕ → Bool
is_one_of known word = list_any (λ (key : Key). bytes_eq (key_word key) word) known

-- the number of the first key that isn't known
abbrev pub first_unknown : List Key → Members → Option ℕ
first_unknown known table = position (λ (word : List ℕ). not (is_one_of known word)) (keys_in table)

-- the table has no other keys
abbrev pub known_alone : List Key → Place → Members → Result (Unit {0}) Fault
known_alone known place table = by_number (first_unknown known table)
  where
    by_number : Option ℕ → Result (Unit {0}) Fault
    by_number None = Ok tt
    by_number (Some n) = Err (Unknown place n)
