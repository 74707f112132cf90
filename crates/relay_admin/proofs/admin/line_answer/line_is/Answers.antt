use Rattle.std.proofs.Common.{◌∙◌, None, sym}
use Rattle.relay_admin.specs.admin.Reply.{bad_command}
use Rattle.relay_admin.specs.admin.Transcript.{no_command}
use Rattle.relay_admin.proofs.LineTranscripts.{unasked, last_line_of}
use Rattle.relay_admin.proofs.admin.line_answer.line_is.Goals as goal

pub returns-in_default : goal.returns-in_default
returns-in_default g c =
    λ asked. unasked asked c.args.line.now bad_command None
    (no_command c.args.line.now c.requires c.in_default.ensures.none)

pub returns-in-Some-end : goal.returns-in-Some-end
returns-in-Some-end g c =
    λ asked. last_line_of asked c.args.line.now c.in-Some.command c.in-Some-end.end c.requires
    c.in-Some.ensures.command (sym c.end.ensures ∙ c.in-Some-end.is)

pub returns-in-None : goal.returns-in-None
returns-in-None g c = (c.in-Some.ensures.command, sym c.end.ensures ∙ c.in-None.is)
