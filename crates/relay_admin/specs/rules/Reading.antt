-- Reading a rules file, line by line and each from left to right, as the code does. Public clauses
-- cite `address_at` alone, of which `laws::an_address_is_read_from_its_text` says what it reads.
use Rattle.std.specs.Prelude.{◌≡◌, ◌<◌, ◌==◌, ◌++◌, ℕ, Bool, true, ◌&&◌, List, [], ◌∷◌}
use Rattle.std.specs.Prelude.{length, Option, Some, None}
use Rattle.std.specs.Prelude.{Result, Ok, Err, codes, if◌then◌else◌}
use Rattle.std.specs.List.{list_any}
use Rattle.std.specs.Str.{bytes_eq}
use Rattle.relay_admin.specs.rules.Addr.{Address, tcp, unix, dot, colon, is_path, same_address}
use Rattle.relay_admin.specs.rules.Grammar.{Entry, IsSkipped, SpellsRule, space, is_name}
use Rattle.relay_admin.specs.rules.Fault.{LacksListen, LacksName, LineFault}
use Rattle.relay_admin.specs.declared.rules.file.RulesFault.{RulesFault}
use Rattle.relay_admin.specs.declared.rules.file.TheConstants.{MAX_RULES}
use Rattle.relay_admin.specs.declared.rules.rule.TheConstants.{MAX_IDLE_MS}
use Rattle.relay_admin.specs.TextReading.{◌>>=◌, split_at_first, number_within, time_within}

-- the address behind "tcp:"
unfoldable pub tcp_at : List ℕ → Option Address
tcp_at text = do
  first ← split_at_first dot text
  second ← split_at_first dot first.1
  third ← split_at_first dot second.1
  fourth ← split_at_first colon third.1
  a ← number_within 0 255 first.0
  b ← number_within 0 255 second.0
  c ← number_within 0 255 third.0
  d ← number_within 0 255 fourth.0
  port ← number_within 1 65535 fourth.1
  Some (tcp a b c d port)

-- the address behind "unix:"
unfoldable pub path_at : List ℕ → Option Address
path_at text = if is_path text then Some (unix text) else None

-- an address
unfoldable pub address_at : List ℕ → Option Address
address_at text = do
  kind ← split_at_first colon text
  if bytes_eq kind.0 (codes "tcp") then tcp_at kind.1
      else if bytes_eq kind.0 (codes "unix") then path_at kind.1
      else None

-- a rule
unfoldable pub rule_at : List ℕ → Option Entry
rule_at text = do
  word ← split_at_first space text
  name ← split_at_first space word.1
  listen ← split_at_first space name.1
  target ← split_at_first space listen.1
  on ← address_at listen.0
  to ← address_at target.0
  idle ← time_within 1 MAX_IDLE_MS target.1
  if bytes_eq word.0 (codes "relay") && is_name name.0 then Some
      (record { name = name.0; listen = on; target = to; idle = idle }) else None

-- an empty line, or one that begins with "#"
abbrev pub is_skipped : List ℕ → Bool
is_skipped [] = true
is_skipped (byte ∷ line) = byte == 35

-- a rule has this name
abbrev pub finds_name : List ℕ → List Entry → Bool
finds_name name entries = list_any (λ (entry : Entry). bytes_eq entry.name name) entries

-- a rule listens on this address
abbrev pub finds_listen : Address → List Entry → Bool
finds_listen address entries =
    list_any (λ (entry : Entry). same_address entry.listen address) entries

-- ---- Going through the lines

-- a good line adds its rule, if it spells one
pub data TakesGoodLine : List Entry → List Entry → List ℕ → Type 0 where
  skips : {before : List Entry} {line : List ℕ} → IsSkipped line → TakesGoodLine before before line
  adds : {before : List Entry} {line : List ℕ} (rule : Entry) → SpellsRule line rule
      → length before < MAX_RULES → LacksName before rule.name → LacksListen before rule
      → TakesGoodLine before (before ++ rule ∷ []) line

-- what came of a line with this number
abbrev pub TakesLine : Result (Unit {0}) RulesFault → List Entry → List Entry → List ℕ → ℕ → Type 0
TakesLine (Ok done) before after line n = TakesGoodLine before after line
TakesLine (Err fault) before after line n = (after ≡ before) × LineFault before line n fault
