use Rattle.relay_admin.proofs.rules.LineSteps.{first_line_cut, first_line_shorter, last_line_cut}
use Rattle.relay_admin.proofs.rules.file.first_line.Goals as goal

pub returns-in-Some-clause-cut : goal.returns-in-Some-clause-cut
returns-in-Some-clause-cut c = first_line_cut _ _ c.in-Some.ensures

pub returns-in-Some-clause-shorter : goal.returns-in-Some-clause-shorter
returns-in-Some-clause-shorter c = first_line_shorter _ _ c.in-Some.ensures

pub returns-in-None-clause-cut : goal.returns-in-None-clause-cut
returns-in-None-clause-cut c = last_line_cut _ c.in-None.ensures c.requires
