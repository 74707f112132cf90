use Rattle.lockword_core.specs.LockState.{empty}
use Rattle.stream_base.specs.Lines.{lines_of}
use Rattle.lockword_script.proofs.TextLemmas.{one_text}
use Rattle.lockword_script.proofs.laws.one_script_has_one_text.Goals as goal

pub returns : goal.returns
returns c script text text' end end' h h' = one_text 1 empty (lines_of script) text text' end end' h h'
