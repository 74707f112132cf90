-- What a reload binds, keeps and ends.
use Rattle.std.specs.Prelude.{◌≡◌, Bool, List, filter, not}
use Rattle.std.specs.List.{list_any}
use Rattle.relay_admin.specs.declared.rules.addr.Addr.{Addr}
use Rattle.relay_admin.specs.declared.rules.rule.Rule.{Rule}
use Rattle.relay_admin.specs.rules.Addr.{address_of, same_address}
use Rattle.relay_main.specs.declared.rule_listeners.Listening.{Listening}
use Rattle.relay_main.specs.declared.wanted_listeners.WantedListener.{WantedListener}
use Rattle.relay_main.specs.Accounts.{AreAccountsOf}
use Rattle.relay_main.specs.RuleListeners.{to_close}
use Rattle.relay_main.specs.declared.reload_plan.ListenerPlan.{ListenerPlan}
use Rattle.relay_main.specs.declared.reload_plan.Plan.{Plan}

-- a listener of these stands at this address
abbrev pub stands_at : List Listening → Addr → Bool
stands_at standing listen =
    list_any (λ one. same_address (address_of one.listen) (address_of listen)) standing

-- of listeners that are wanted those at whose addresses none stands: they are bound
abbrev pub to_bind : List Listening → List WantedListener → List WantedListener
to_bind standing wanted = filter (λ one. not (stands_at standing one.listen)) wanted

-- the others: at their addresses one stands, which is kept
abbrev pub to_keep : List Listening → List WantedListener → List WantedListener
to_keep standing wanted = filter (λ one. stands_at standing one.listen) wanted

-- the plan of the listeners that are known, of which these stand, where those are wanted
pub record AreListenersPlanned (wanted : List WantedListener) (known standing : List Listening) (plan : ListenerPlan)
    : Type 0 where
  pub bind : plan.bind.items ≡ to_bind standing wanted
  pub keep : plan.keep.items ≡ to_keep standing wanted
  pub close : plan.close.items ≡ to_close wanted known

-- the plan to these rules, which want those listeners
pub record IsPlanned (rules : List Rule) (wanted : List WantedListener) (known standing : List Listening) (plan : Plan)
    : Type 0 where
  pub serve : AreAccountsOf rules plan.serve.items
  pub listeners : AreListenersPlanned wanted known standing plan.listeners
