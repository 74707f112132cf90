use Rattle.relay_admin.proofs.admin.ShownLines.{one_target_line}
use Rattle.relay_admin.proofs.laws.a_target_is_one_line.Goals as goal

pub returns : goal.returns
returns c = one_target_line
