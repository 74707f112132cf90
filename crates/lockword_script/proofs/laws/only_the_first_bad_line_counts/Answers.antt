use Rattle.std.proofs.Common.{arith}
use Rattle.lockword_core.specs.LockState.{empty}
use Rattle.stream_base.specs.Lines.{lines_of}
use Rattle.lockword_script.proofs.TextLemmas.{same_text}
use Rattle.lockword_script.proofs.laws.only_the_first_bad_line_counts.Goals as goal

pub returns : goal.returns
returns c script other text number h e =
    same_text 1 empty (lines_of script) (lines_of other) text number number h (omega arith) e
