use Rattle.lockword_core.specs.LockState.{empty}
use Rattle.stream_base.specs.Lines.{lines_of}
use Rattle.lockword_script.proofs.TextLemmas.{some_text}
use Rattle.lockword_script.proofs.laws.each_script_has_a_text.Goals as goal

pub returns : goal.returns
returns c script = some_text (lines_of script) 1 empty
