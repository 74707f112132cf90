use Rattle.std.proofs.Common.{refl}
use Rattle.relay_admin.proofs.admin.Refusals.{replies_tell}
use Rattle.relay_admin.proofs.laws.a_reply_tells_whether_it_refuses.Goals as goal

pub returns : goal.returns
returns c = record { answers = replies_tell; bad_command = refl }
