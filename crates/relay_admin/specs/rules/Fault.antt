-- What a whole rules file says: its rules, or its first fault.
use Rattle.std.specs.Prelude.{◌≡◌, ◌≢◌, ◌<◌, ◌≤◌, ◌+◌, ℕ, List, ◌∷◌, ◌++◌, length, All, Any}
use Rattle.std.specs.List.{AllPairs}
use Rattle.stream_base.specs.Lines.{lines_of}
use Rattle.relay_admin.specs.rules.Grammar.{Entry, IsSkipped, SpellsRule, Spell}
use Rattle.relay_admin.specs.declared.rules.file.RulesFault.{RulesFault}
use Rattle.relay_admin.specs.declared.rules.file.TheConstants.{MAX_BYTES, MAX_RULES}
use Rattle.relay_admin.specs.declared.rules.file.RulesFault.TheVariants as faults

-- as many rules as a file may have, of which no two have one name or listen on one address
pub record CanStandTogether (entries : List Entry) : Type 0 where
  pub few : length entries ≤ MAX_RULES
  pub names : AllPairs (λ (one : Entry) (other : Entry). one.name ≢ other.name) entries
  pub listens : AllPairs (λ (one : Entry) (other : Entry). one.listen ≢ other.listen) entries

-- a rule before has this name
abbrev pub HasName : List Entry → List ℕ → Type 0
HasName before name = Any (λ (entry : Entry). entry.name ≡ name) before

-- no rule before has it
abbrev pub LacksName : List Entry → List ℕ → Type 0
LacksName before name = All (λ (entry : Entry). entry.name ≢ name) before

-- a rule before listens where this one does
abbrev pub HasListen : List Entry → Entry → Type 0
HasListen before rule = Any (λ (entry : Entry). entry.listen ≡ rule.listen) before

-- no rule before does
abbrev pub LacksListen : List Entry → Entry → Type 0
LacksListen before rule = All (λ (entry : Entry). entry.listen ≢ rule.listen) before

-- the fault of a line with this number, before which these rules stand; of several it is the first
-- in this order
pub data LineFault : List Entry → List ℕ → ℕ → RulesFault → Type 0 where
  bad_line : {before : List Entry} {line : List ℕ} {n : ℕ}
      → (IsSkipped line → ⊥) → ((entry : Entry) → SpellsRule line entry → ⊥)
      → LineFault before line n (faults.BadLine n)
  too_many : {before : List Entry} {line : List ℕ} {n : ℕ} (rule : Entry) → SpellsRule line rule
      → MAX_RULES ≤ length before → LineFault before line n (faults.TooMany n)
  same_name : {before : List Entry} {line : List ℕ} {n : ℕ} (rule : Entry) → SpellsRule line rule
      → length before < MAX_RULES → HasName before rule.name
      → LineFault before line n (faults.SameName n)
  same_listen : {before : List Entry} {line : List ℕ} {n : ℕ} (rule : Entry) → SpellsRule line rule
      → length before < MAX_RULES → LacksName before rule.name → HasListen before rule
      → LineFault before line n (faults.SameListen n)

-- the first line with a fault, after lines that spell rules which can stand together
pub record FirstFault (lines : List (List ℕ)) (fault : RulesFault) : Type 0 where
  pub front : List (List ℕ)
  pub line : List ℕ
  pub rest : List (List ℕ)
  pub before : List Entry
  pub cut : lines ≡ front ++ line ∷ rest
  pub spelled : Spell front before
  pub together : CanStandTogether before
  pub faulty : LineFault before line (length front + 1) fault

-- the text is a rules file with these rules
pub record SaysRules (text : List ℕ) (entries : List Entry) : Type 0 where
  pub short : length text ≤ MAX_BYTES
  pub spelled : Spell (lines_of text) entries
  pub together : CanStandTogether entries

-- the text is no rules file, for this reason first
abbrev pub SaysFault : List ℕ → RulesFault → Type 0
SaysFault text faults.TooLong = MAX_BYTES < length text
SaysFault text fault = (length text ≤ MAX_BYTES) × FirstFault (lines_of text) fault
