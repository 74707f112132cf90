use Rattle.lockword_script.proofs.ScriptLemmas.{says_once}
use Rattle.lockword_script.proofs.laws.a_line_says_one_thing.Goals as goal

pub returns : goal.returns
returns c line first count first' count' asked asked' says says' =
    says_once line first count first' count' asked asked' says says'
