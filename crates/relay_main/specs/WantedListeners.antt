-- The listeners that rules are to have.
use Rattle.std.specs.Prelude.{Bool, List, map}
use Rattle.std.specs.Arc.{arc_value}
use Rattle.std.specs.List.{flat_map, list_any}
use Rattle.std.specs.declared.alloc.Global.{Global}
use Rattle.std.specs.declared.sync.Arc.{Arc}
use Rattle.relay_admin.specs.declared.rules.addr.Addr.{Addr}
use Rattle.relay_admin.specs.rules.Addr.{address_of, same_address}
use Rattle.relay_facts.specs.Listens.{listens_in}
use Rattle.relay_facts.specs.declared.served_rule.Said.{Said}
use Rattle.relay_main.specs.declared.wanted_listeners.WantedListener.{WantedListener}

-- that of a rule that says this at one of its addresses
abbrev pub wanted_at : Said → Addr → WantedListener
wanted_at said listen = record {
  rule = said.rule;
  listen = listen;
  backlog = said.sockets.backlog;
  mode = said.sockets.mode;
}

-- those of a rule that says this: one at each of its addresses
abbrev pub wanted_of : Said → List WantedListener
wanted_of said = map (wanted_at said) (listens_in said)

-- those of rules, in their order
abbrev pub wanted_by : List (Arc Said Global) → List WantedListener
wanted_by all = flat_map (λ said. wanted_of (arc_value said)) all

-- one of these is wanted at this address
abbrev pub is_wanted_at : Addr → List WantedListener → Bool
is_wanted_at addr wanted =
    list_any (λ one. same_address (address_of one.listen) (address_of addr)) wanted
