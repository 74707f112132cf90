-- The numbers of targets, and what a session is refused that names a rule.
use Rattle.std.specs.Prelude.{◌≡◌, ◌<◌, ◌+◌, ◌*◌, ◌/◌, ◌%◌, ◌^◌, ◌⊎◌, ℕ, true, IsSomeAnd, length, slice_get}
use Rattle.std.specs.Arc.{arc_value}
use Rattle.relay_admin.specs.admin.TargetOrder.{rule_word, target_word}
use Rattle.relay_admin.specs.declared.admin.target_order.TargetOrder.{TargetOrder}
use Rattle.relay_facts.specs.Steering.{names}
use Rattle.relay_facts.specs.Targets.{targets_of}
use Rattle.relay_facts.specs.declared.served_rule.Said.{Said}
use Rattle.relay_facts.specs.declared.target_list.Targets.{Targets}
use Rattle.relay_admin.specs.declared.admin.answers.TargetAnswer.{TargetAnswer}
use Rattle.relay_admin.specs.declared.admin.answers.TargetAnswer.TheVariants.{NoMemory, UnknownRule}

-- the number of the target at a place of an account
abbrev pub target_number : (account place : ℕ) → ℕ
target_number account place = account * 64 + place

-- the account and the place that a number has
abbrev pub parts_of : ℕ → ℕ × ℕ
parts_of number = (number / 64, number % 64)

-- the command's word names a target of the list that a rule says
abbrev pub NamesTarget : TargetOrder → Said → Type 0
NamesTarget order said = IsSomeAnd said.targets (λ list. (place : ℕ)
    × IsSomeAnd (slice_get (targets_of (arc_value list)) place)
    (λ target. names (target_word order) place target ≡ true))

-- no rule has the name, or what one says couldn't be held
abbrev pub IsRuleRefused : TargetAnswer → Type 0
IsRuleRefused answer = (answer ≡ UnknownRule) ⊎ (answer ≡ NoMemory)

-- the number of a target of this list, of the account with this number
abbrev pub IsNumberIn : (account : ℕ) → Targets → ℕ → Type 0
IsNumberIn account targets number = (place : ℕ) × (place < length (targets_of targets))
    × (account < 2 ^ 57 → number ≡ target_number account place)

-- a rule of the name that the command says has a target that its word names
abbrev pub IsTargetKnown : TargetOrder → Type 0
IsTargetKnown order = (said : Said) × (said.rule.name.bytes ≡ rule_word order) × NamesTarget order said
