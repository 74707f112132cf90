use Rattle.std.proofs.Common.{ap, sym, rules}
use Rattle.std.specs.Prelude.{option_map}
use Rattle.std.specs.Arc.{arc_value}
use Rattle.relay_facts.proofs.served_rule.Said.looked_up.Goals as goal

pub returns-in-Some-clause-named : goal.returns-in-Some-clause-named
returns-in-Some-clause-named c = record {
  named = arc_value c.in-Some-Some.named;
  before = arc_value c.in-Some-Some.list;
  list = arc_value c.in_ok-list.list;
  said = search rules;
  known = search rules;
  found = search rules;
  same = c.in-Some.ensures;
}
