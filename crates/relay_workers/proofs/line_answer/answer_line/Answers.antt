use Rattle.relay_admin.specs.admin.Parts.{said_of}
use Rattle.relay_admin.proofs.LineTranscripts.{asked_line}
use Rattle.relay_workers.proofs.line_answer.answer_line.Goals as goal

pub returns-in-Answered : goal.returns-in-Answered
returns-in-Answered g c = c.in-Answered.ensures _

pub returns-in-Asks : goal.returns-in-Asks
returns-in-Asks g c =
    asked_line _ _ c.args.line.now c.in-Asks.command _ (said_of c.line_reply_to.result) c.requires c.in-Asks.ensures.0
    c.in-Asks.ensures.1 c.ask-answer.ensures.told c.ask-answer.ensures.asked c.line_reply_to.ensures
