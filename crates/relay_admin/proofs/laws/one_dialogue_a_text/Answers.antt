use Rattle.stream_base.specs.Lines.{lines_of}
use Rattle.relay_admin.proofs.admin.CommandLemmas.{one_command}
use Rattle.relay_admin.proofs.admin.OneDialogue.{one_transcript}
use Rattle.relay_admin.proofs.laws.one_dialogue_a_text.Goals as goal

pub returns : goal.returns
returns c = record {
  line = one_command;
  text = λ text a a' r r' e e' h h'. one_transcript 1 (lines_of text) a a' r r' e e' h h';
}
