-- The accounts of rules.
use Rattle.std.specs.Prelude.{◌≡◌, ℕ, Bool, true, List, Option, Some, filter, find, length, not, slice_get}
use Rattle.std.specs.List.{list_any}
use Rattle.std.specs.Arc.{arc_value}
use Rattle.std.specs.declared.alloc.Global.{Global}
use Rattle.std.specs.declared.sync.Arc.{Arc}
use Rattle.relay_admin.specs.declared.rules.addr.Addr.{Addr}
use Rattle.relay_admin.specs.declared.rules.rule.Rule.{Rule}
use Rattle.relay_admin.specs.rules.Addr.{address_of, same_address}
use Rattle.relay_facts.specs.declared.served_rule.ServedRule.{ServedRule}

-- the account is of this address
abbrev pub is_account_of : Addr → Arc ServedRule Global → Bool
is_account_of addr account = same_address (address_of (arc_value account).listen) (address_of addr)

-- the first account of this address
abbrev pub account_at : Addr → List (Arc ServedRule Global) → Option (Arc ServedRule Global)
account_at addr accounts = find (is_account_of addr) accounts

-- an account for each of these rules, in their order, and of its address
pub record AreAccountsOf (rules : List Rule) (accounts : List (Arc ServedRule Global)) : Type 0 where
  pub count : length accounts ≡ length rules
  pub own : (k : ℕ) (rule : Rule) (account : Arc ServedRule Global) → slice_get rules k ≡ Some rule
      → slice_get accounts k ≡ Some account → is_account_of rule.listen account ≡ true

-- this is the own address of a rule of these
abbrev pub is_listened_at : Addr → List Rule → Bool
is_listened_at addr rules =
    list_any (λ rule. same_address (address_of rule.listen) (address_of addr)) rules

-- the accounts of none of these rules
abbrev pub without_rules : List Rule → List (Arc ServedRule Global) → List (Arc ServedRule Global)
without_rules rules accounts =
    filter (λ (account : Arc ServedRule Global). not (is_listened_at (arc_value account).listen rules))
    accounts
