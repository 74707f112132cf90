use Rattle.relay_command.proofs.ReplyLemmas.{status_known}
use Rattle.relay_command.proofs.ctl.reply_status.Goals as goal

pub returns-in-Ok-write_all-clause-known : goal.returns-in-Ok-write_all-clause-known
returns-in-Ok-write_all-clause-known g c = status_known c.as_slice-in-Ok-write_all.result.now c.status_of.result c.status_of.ensures
