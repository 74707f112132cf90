-- A reply is a refusal exactly where its answer refuses.
use Rattle.std.proofs.Common.{◌≡◌, refl}
use Rattle.relay_admin.specs.admin.Refusal.{reply_refuses, refuses}
use Rattle.relay_admin.specs.admin.Reply.{Answer, reply_text}
use Rattle.relay_admin.specs.admin.Reply as answers
use Rattle.relay_admin.specs.admin.Shown.{who_text}
use Rattle.relay_admin.specs.declared.rules.verdict.Verdict.TheVariants.{Rules, Bad, BadConfig}
use Rattle.relay_admin.specs.declared.rules.file.RulesFault.TheVariants as faults

pub replies_tell : (answer : Answer) → reply_refuses (reply_text answer) ≡ refuses answer
unfolding who_text
replies_tell (answers.ids list) = refl
replies_tell (answers.totals up down) = refl
replies_tell answers.fine = refl
replies_tell answers.unknown = refl
replies_tell answers.closed = refl
replies_tell answers.draining = refl
replies_tell answers.busy = refl
replies_tell answers.no_memory = refl
replies_tell (answers.shown particulars) = refl
replies_tell (answers.verdict (Rules count)) = refl
replies_tell (answers.verdict (Bad faults.TooLong)) = refl
replies_tell (answers.verdict (Bad (faults.BadLine line))) = refl
replies_tell (answers.verdict (Bad (faults.TooMany line))) = refl
replies_tell (answers.verdict (Bad (faults.SameName line))) = refl
replies_tell (answers.verdict (Bad (faults.SameListen line))) = refl
replies_tell (answers.verdict (BadConfig why)) = refl
replies_tell answers.cannot_read = refl
replies_tell (answers.cannot_listen name) = refl
replies_tell answers.device = refl
replies_tell answers.unknown_rule = refl
replies_tell answers.unknown_target = refl
