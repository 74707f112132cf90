use Rattle.lockword_script.proofs.ScriptLemmas.{long_line_bad}
use Rattle.lockword_script.proofs.laws.a_long_line_is_bad.Goals as goal

pub returns : goal.returns
returns c line long first count asked says = long_line_bad line long first count asked says
