use Rattle.std.proofs.Common.{◌∙◌, ap, string_bytes}
use Rattle.std.specs.Fmt.{debug_str}
use Rattle.toml.specs.View.{view}
use Rattle.toml.proofs.Views.{view-String}
use Rattle.relay_config.specs.Fronts.{IsLongestFront}
use Rattle.relay_config.specs.Line.{quoted, value_words}
use Rattle.relay_config.specs.declared.line.TheConstants.{MAX_SHOWN_BYTES}
use Rattle.relay_config.proofs.Said.{quoted_cases, said_or_none, same_said}
use Rattle.relay_config.proofs.line.value_words.Goals as goal

pub returns-in-String : goal.returns-in-String
returns-in-String c =
    let bytes = string_bytes c.in-String.text in
    let front : IsLongestFront MAX_SHOWN_BYTES bytes c.cut-text.result.now = rw c.as_str.ensures.value at c.cut-text.ensures in
    same_said c.format.result _ (quoted bytes)
    (ap (λ value. value_words (view value)) c.in-String.is ∙ ap value_words (view-String c.in-String.text))
    (said_or_none c.format.result (quoted bytes) (debug_str c.cut-text.result.now) (quoted_cases bytes c.cut-text.result.now front) c.format.ensures.ok)
