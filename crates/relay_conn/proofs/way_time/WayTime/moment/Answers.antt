use Rattle.std.proofs.Common.{◌∙◌, sym, ap}
use Rattle.deadline_core.specs.CallHistory.{moment_of}
use Rattle.relay_conn.proofs.DeadlinesLemmas.{said}
use Rattle.relay_conn.proofs.way_time.WayTime.moment.Goals as goal

pub returns-in-At : goal.returns-in-At
returns-in-At g c = ap moment_of (sym c.in-At.is ∙ said c.args.self.now.deadlines c.args.dir c.deadline.result c.deadline.ensures.said)

pub returns-in-Never : goal.returns-in-Never
returns-in-Never g c = ap moment_of (sym c.in-Never.is ∙ said c.args.self.now.deadlines c.args.dir c.deadline.result c.deadline.ensures.said)
