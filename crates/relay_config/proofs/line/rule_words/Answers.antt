use Rattle.std.proofs.Common.{Some, ap, sym}
use Rattle.std.specs.Prelude.{codes}
use Rattle.std.specs.Fmt.{◌++?◌, debug_str}
use Rattle.relay_config.specs.Line.{named_rule, quoted}
use Rattle.relay_config.proofs.Said.{named_or_none, quoted_cases, said_or_none, same_said}
use Rattle.relay_config.proofs.line.rule_words.Goals as goal

pub returns-in-Some : goal.returns-in-Some
returns-in-Some c =
    let name = c.in-Some.name.now in
    let shown = c.cut-name.result.now in
    let before = codes "rule " in
    let after = codes ": " in
    same_said c.format.result _ (Some before ++? quoted name ++? Some after) (ap (named_rule c.args.rule) (sym c.in-Some.ensures))
    (said_or_none c.format.result _ (Some before ++? debug_str shown ++? Some after)
    (named_or_none before after (quoted name) (debug_str shown) (quoted_cases name shown c.cut-name.ensures)) c.format.ensures.ok)
