use Rattle.std.proofs.lemmas.Fmt.{decimal_injective}
use Rattle.stream_base.proofs.laws.one_number_a_spelling.Goals as goal

pub returns : goal.returns
returns c m n h k e = decimal_injective m n h k e
