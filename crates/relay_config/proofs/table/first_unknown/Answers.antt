use Rattle.std.proofs.Common.{◌∙◌, not}
use Rattle.relay_config.specs.Reading.{is_one_of}
use Rattle.relay_config.proofs.Tables.{position_of_key}
use Rattle.relay_config.proofs.table.first_unknown.Goals as goal

pub returns : goal.returns
returns c =
    c.first_other.ensures
    ∙ position_of_key (λ word. not (is_one_of c.args.known.now word)) c.args.table.now.entries
