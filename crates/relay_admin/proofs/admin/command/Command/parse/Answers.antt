use Rattle.relay_admin.proofs.admin.CommandLemmas.{command_is, no_words_no_command, no_command_is}
use Rattle.relay_admin.proofs.admin.command.Command.parse.Goals as goal

pub returns-in_default-clause-none : goal.returns-in_default-clause-none
returns-in_default-clause-none c = no_words_no_command _ c.in_default.ensures

pub returns-clause-command : goal.returns-clause-command
returns-clause-command c =
    command_is c.args.text.now c.in-Some.word.now c.in-Some.arguments c.command_named.result c.in-Some.ensures
    c.command_named.ensures

pub returns-clause-none : goal.returns-clause-none
returns-clause-none c =
    no_command_is c.args.text.now c.in-Some.word.now c.in-Some.arguments c.command_named.result c.in-Some.ensures
    c.command_named.ensures
