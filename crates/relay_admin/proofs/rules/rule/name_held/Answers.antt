use Rattle.std.proofs.Common.{lit<}
use Rattle.relay_admin.proofs.GrammarBytes.{name_visible, name_short}
use Rattle.relay_admin.proofs.rules.rule.name_held.Goals as goal

pub held-requires : goal.held-requires
held-requires c = (lit< tt, (name_visible c.args.name.now c.requires, name_short c.args.name.now c.requires))
