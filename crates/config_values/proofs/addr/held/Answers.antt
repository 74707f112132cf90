use Rattle.std.proofs.lemmas.Str.{IsUtf8-from_ascii}
use Rattle.config_values.proofs.Bytes.{all_ascii}
use Rattle.config_values.proofs.addr.held.Goals as goal

pub unreachable-requires-in-Err : goal.unreachable-requires-in-Err
unreachable-requires-in-Err g c =
    c.in-Err.ensures.cases.0 (IsUtf8-from_ascii c.args.text.now (all_ascii c.args.text.now c.requires.visible))
