use Rattle.std.proofs.Common.{Option, List, ℕ, Some, ap, string_bytes}
use Rattle.std.specs.Prelude.{codes}
use Rattle.std.specs.Fmt.{◌++?◌}
use Rattle.toml.specs.View.{table_view}
use Rattle.relay_config.specs.Line.{spot_words, wrong_words}
use Rattle.relay_config.proofs.Said.{same_said, spot_said, told_other}
use Rattle.relay_config.proofs.line.spot_line.Goals as goal

pub returns : goal.returns
returns c =
    let table = table_view c.args.table.now in
    same_said c.format-2.result _ _
    (ap (λ (told : Option (List ℕ)). Some (codes "bad config: ") ++? spot_words table c.args.spot ++? told) (told_other table c.args.spot c.args.wrong c.in_default.not-Missing))
    (spot_said c.format-2.result (spot_words table c.args.spot) (wrong_words table c.args.spot c.args.wrong)
    (string_bytes c.in_ok-here.here) (string_bytes c.in_ok-what.what) c.as_str-here.result.now c.as_str-what.result.now
    c.in_ok-here.ensures c.in_ok-what.ensures c.as_str-here.ensures.value c.as_str-what.ensures.value c.format-2.ensures.ok)
