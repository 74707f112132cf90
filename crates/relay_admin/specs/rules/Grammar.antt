-- The rules file: which lines spell which rules.
use Rattle.std.specs.Prelude.{◌≡◌, ◌==◌, ◌<◌, ◌≤◌, ℕ, Bool, true, ◌&&◌, ◌||◌, List, [], ◌∷◌, ◌++◌}
use Rattle.std.specs.Prelude.{length, map, nat_le, Option, Some, None, IfSome, codes}
use Rattle.std.specs.Fmt.{decimal}
use Rattle.std.specs.List.{list_all}
use Rattle.relay_admin.specs.rules.Addr.{Address, IsAddress, address_text, address_of, first_passes}
use Rattle.relay_admin.specs.declared.rules.rule.Rule.{Rule}
use Rattle.relay_admin.specs.declared.rules.rule.TheConstants.{MAX_NAME_BYTES, MAX_IDLE_MS}

-- a rule, by what it says
pub record Entry : Type 0 where
  pub name : List ℕ
  pub listen : Address
  pub target : Address
  pub idle : Option ℕ

-- what a rule of the program says
abbrev pub entry_of : Rule → Entry
entry_of rule =
    record {
      name = rule.name.bytes;
      listen = address_of rule.listen;
      target =
          address_of rule.target;
      idle = rule.idle_ms;
    }

-- what rules of the program say
abbrev pub entries_of : List Rule → List Entry
entries_of rules = map entry_of rules

-- a to z
abbrev pub is_letter : ℕ → Bool
is_letter byte = nat_le 97 byte && nat_le byte 122

-- 0 to 9
abbrev pub is_digit : ℕ → Bool
is_digit byte = nat_le 48 byte && nat_le byte 57

-- a to z, 0 to 9 or "-"
abbrev pub is_name_byte : ℕ → Bool
is_name_byte byte = is_letter byte || is_digit byte || (byte == 45)

-- such bytes, as many as a name may have, the first a letter
abbrev pub is_name : List ℕ → Bool
is_name bytes =
    first_passes is_letter bytes && list_all is_name_byte bytes && nat_le
    (length bytes) MAX_NAME_BYTES

-- milliseconds from 1 on, or never
abbrev pub IsIdle : Option ℕ → Type 0
IsIdle idle = IfSome idle (λ ms. (0 < ms) × (ms ≤ MAX_IDLE_MS))

-- the text of so many milliseconds, or of never
abbrev pub time_text : Option ℕ → List ℕ
time_text None = codes "never"
time_text (Some ms) = decimal ms

-- a rule of the grammar
pub record IsEntry (entry : Entry) : Type 0 where
  pub name : is_name entry.name ≡ true
  pub listen : IsAddress entry.listen
  pub target : IsAddress entry.target
  pub idle : IsIdle entry.idle

-- the byte " "
abbrev pub space : ℕ
space = 32

-- the word "relay" and the four parts of the rule, with one space between each two
abbrev pub line_text : Entry → List ℕ
line_text entry =
    codes "relay" ++ space ∷ (entry.name ++ space ∷
    (address_text entry.listen ++ space ∷
    (address_text entry.target ++ space ∷ time_text entry.idle)))

-- the line spells the rule
pub record SpellsRule (line : List ℕ) (entry : Entry) : Type 0 where
  pub fits : IsEntry entry
  pub text : line ≡ line_text entry

-- an empty line, or a comment, which begins with "#"
abbrev pub IsSkipped : List ℕ → Type 0
IsSkipped [] = Unit {0}
IsSkipped (byte ∷ line) = byte ≡ 35

-- each line is skipped or spells the next rule
pub data Spell : List (List ℕ) → List Entry → Type 0 where
  nothing : Spell [] []
  skipped : {line : List ℕ} {lines : List (List ℕ)} {entries : List Entry}
      → IsSkipped line → Spell lines entries → Spell (line ∷ lines) entries
  rule : {line : List ℕ} {entry : Entry} {lines : List (List ℕ)} {entries : List Entry}
      → SpellsRule line entry → Spell lines entries → Spell (line ∷ lines) (entry ∷ entries)
