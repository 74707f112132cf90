use Rattle.std.proofs.lemmas.Str.{IsUtf8-from_ascii}
use Rattle.relay_admin.proofs.GrammarBytes.{all_ascii}
use Rattle.relay_admin.proofs.rules.addr.held.Goals as goal

pub unreachable-requires-in-Err : goal.unreachable-requires-in-Err
unreachable-requires-in-Err g c =
    c.in-Err.ensures.cases.0 (IsUtf8-from_ascii c.args.text.now (all_ascii c.args.text.now c.requires.visible))
