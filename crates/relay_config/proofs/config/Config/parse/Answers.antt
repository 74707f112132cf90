use Rattle.std.proofs.Common.{◌≤◌, arith, length}
use Rattle.relay_config.specs.Config.{IsToml, too_long}
use Rattle.relay_config.specs.declared.config.TheConstants.{MAX_BYTES}
use Rattle.toml.specs.View.{table_view}
use Rattle.relay_config.proofs.Texts.{of_answer, of_no_toml}
use Rattle.relay_config.proofs.config.Config.parse.Goals as goal

pub returns-then-text-gt-MAX_BYTES-clause-fault : goal.returns-then-text-gt-MAX_BYTES-clause-fault
returns-then-text-gt-MAX_BYTES-clause-fault c = λ other. too_long (omega arith)

pub returns-in-Err-clause-fault : goal.returns-in-Err-clause-fault
returns-in-Err-clause-fault c = of_no_toml c.args.text.now _ (omega arith) c.in-Err.ensures.fault

pub returns-in-Ok-clause-fault : goal.returns-in-Ok-clause-fault
returns-in-Ok-clause-fault c =
    let short : length c.args.text.now ≤ MAX_BYTES = omega arith in
    let toml : IsToml c.args.text.now (table_view c.in-Ok.table) =
    record { short = short; utf8 = c.in-Ok.ensures.utf8; read = c.in-Ok.ensures.table } in
    of_answer c.args.text.now (table_view c.in-Ok.table) c.config_of.result toml c.config_of.ensures
