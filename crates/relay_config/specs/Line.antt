-- What is said of a fault, for who wrote the text: of texts in it as far as they are ASCII.
use Rattle.std.specs.Prelude.{◌≡◌, ◌+◌, ◌-◌, ◌^◌, ◌++◌, min, ℕ, List, [], Option, Some, None, IfSome, codes, if◌then◌else◌, take}
use Rattle.std.specs.Fmt.{◌++?◌, debug_str, decimal, signed_decimal}
use Rattle.std.specs.List.{list_all}
use Rattle.std.specs.Option.{option_and_then}
use Rattle.std.specs.Char.{is_ascii}
use Rattle.toml.specs.Data.{Data, Members}
use Rattle.toml.specs.Data as toml
use Rattle.toml.specs.Parse.{parse_document}
use Rattle.relay_config.specs.Fault.{key_word, spot}
use Rattle.relay_config.specs.LookedUp.{AreNearest, key_number, keys_of, value_at_spot}
use Rattle.relay_config.specs.Wanted.{most_of, wanted, wanted_type}
use Rattle.relay_config.specs.declared.config.TheConstants.{MAX_BYTES}
use Rattle.relay_config.specs.declared.fault.Fault.{Fault}
use Rattle.relay_config.specs.declared.fault.Fault.TheVariants as fault
use Rattle.relay_config.specs.declared.fault.Key.{Key}
use Rattle.relay_config.specs.declared.fault.Key.TheVariants as key
use Rattle.relay_config.specs.declared.fault.Place.{Place}
use Rattle.relay_config.specs.declared.fault.Place.TheVariants as place
use Rattle.relay_config.specs.declared.fault.Spot.{Spot}
use Rattle.relay_config.specs.declared.fault.Wrong.{Wrong}
use Rattle.relay_config.specs.declared.fault.Wrong.TheVariants as wrong
use Rattle.relay_config.specs.declared.line.TheConstants.{MAX_SHOWN_BYTES}

-- the bytes are this text, if it is said here
abbrev pub IsText : Option (List ℕ) → List ℕ → Type 0
IsText said bytes = IfSome said (λ text. bytes ≡ text)

-- the front of a text in quotes
abbrev pub quoted : List ℕ → Option (List ℕ)
quoted text = if list_all is_ascii text then debug_str (take MAX_SHOWN_BYTES text) else None

-- a number as operators count, from 1
abbrev pub from_one : ℕ → List ℕ
from_one number = decimal (min (number + 1) (2 ^ 64 - 1))

-- a value as it is written, or what it is where that may be long
abbrev pub value_words : Data → Option (List ℕ)
value_words (toml.string text) = quoted text
value_words (toml.integer number) = Some (signed_decimal number)
value_words (toml.boolean flag) = Some (if flag then codes "true" else codes "false")
value_words (toml.float number) = Some (codes "a number with a fraction")
value_words (toml.datetime moment) = Some (codes "a date or a time of day")
value_words (toml.array items) = Some (codes "a list")
value_words (toml.table _) = Some (codes "a table")

-- the same of what may not be there
abbrev pub shown : Option Data → Option (List ℕ)
shown None = Some []
shown (Some value) = value_words value

-- the name of a rule with this number, where it is a text
abbrev pub name_of : Members → ℕ → Option (List ℕ)
name_of table rule =
    option_and_then toml.as_str (value_at_spot table (spot (place.Rule rule) key.Name))

-- a rule with this number, by its name where it has one
abbrev pub named_rule : ℕ → Option (List ℕ) → Option (List ℕ)
named_rule rule (Some name) = Some (codes "rule ") ++? quoted name ++? Some (codes ": ")
named_rule rule None = Some (codes "rule " ++ from_one rule ++ codes ": ")

abbrev pub rule_words : Members → ℕ → Option (List ℕ)
rule_words table rule = named_rule rule (name_of table rule)

-- a key of a rule that has a table
abbrev pub key_words : Members → ℕ → Key → Option (List ℕ)
key_words table rule key = rule_words table rule ++? Some (key_word key ++ codes ": ")

-- the table that a fault is in
abbrev pub place_words : Members → Place → Option (List ℕ)
place_words table place.Top = Some []
place_words table place.Admin = Some (codes "admin: ")
place_words table place.Log = Some (codes "log: ")
place_words table (place.Rule rule) = rule_words table rule
place_words table (place.Proxy rule) = key_words table rule key.ProxyProtocol
place_words table (place.Health rule) = key_words table rule key.Health
place_words table (place.Target rule target) =
    rule_words table rule ++? Some (codes "target " ++ from_one target ++ codes ": ")

-- the item of a list, by its number
abbrev pub item_words : Option ℕ → List ℕ
item_words None = []
item_words (Some number) = codes " " ++ from_one number

-- the key, or the item, that a fault is at
abbrev pub spot_words : Members → Spot → Option (List ℕ)
spot_words table spot =
    place_words table spot.place ++? Some (key_word spot.key ++ item_words spot.item)

-- what is said twice
abbrev pub twice_words : Key → List ℕ
twice_words key.Name = codes " is the name of a rule before it"
twice_words other = codes " is listened at already"

-- what is wrong there
abbrev pub wrong_words : Members → Spot → Wrong → Option (List ℕ)
wrong_words table spot wrong.Missing = Some (codes "missing")
wrong_words table spot wrong.Type =
    shown (value_at_spot table spot) ++? Some (codes " is not " ++ wanted_type spot)
wrong_words table spot wrong.Value =
    shown (value_at_spot table spot) ++? Some (codes " is " ++ wanted spot.key)
wrong_words table spot wrong.Empty = Some (codes "the list is empty")
wrong_words table spot wrong.TooMany = Some (codes "more than " ++ decimal (most_of spot.key))
wrong_words table spot wrong.Twice = shown (value_at_spot table spot) ++? Some (twice_words spot.key)
wrong_words table spot wrong.Unserved = Some (codes "this version doesn't serve it")

-- what stands between the key and what is wrong with it
abbrev pub told_of : Members → Spot → Wrong → Option (List ℕ)
told_of table spot wrong.Missing = Some (codes " is missing")
told_of table spot wrong = Some (codes ": ") ++? wrong_words table spot wrong

-- the line of a fault at a spot
abbrev pub spot_line : Members → Spot → Wrong → Option (List ℕ)
spot_line table spot wrong =
    Some (codes "bad config: ") ++? spot_words table spot ++? told_of table spot wrong

-- the key that may be meant
abbrev pub meant_words : Option Key → List ℕ
meant_words None = []
meant_words (Some key) = codes "; \"" ++ key_word key ++ codes "\" is meant?"

-- the line of a key that the table may not have: which key may be meant is one of the nearest
abbrev pub IsUnknownLine : Members → Place → ℕ → List ℕ → Type 0
IsUnknownLine table place number line =
    let word = key_number table place number in
    (meant : Option Key) × AreNearest (keys_of place) word meant
    × IsText (Some (codes "bad config: ") ++? place_words table place ++? Some (codes "unknown key ")
    ++? quoted word ++? Some (meant_words meant)) line

-- the line of a text that is no TOML, with the reader's words
abbrev pub IsTomlLine : ℕ → ℕ → List ℕ → Type 0
IsTomlLine at column line = (why : List ℕ)
    × (line ≡ codes "bad config: line " ++ decimal at ++ codes ", column " ++ decimal column ++ codes ": no TOML: " ++ why)

-- the line says this fault of this text
abbrev pub SaysLine : List ℕ → Fault → List ℕ → Type 0
SaysLine text fault.Memory line = line ≡ codes "bad config: out of memory"
SaysLine text fault.TooLong line =
    line ≡ codes "bad config: more than " ++ decimal MAX_BYTES ++ codes " bytes"
SaysLine text (fault.Toml at column) line = IsTomlLine at column line
SaysLine text (fault.Unknown place number) line = (table : Members)
    × (parse_document text ≡ Some table) × IsUnknownLine table place number line
SaysLine text (fault.At spot wrong) line = (table : Members)
    × (parse_document text ≡ Some table) × IsText (spot_line table spot wrong) line
