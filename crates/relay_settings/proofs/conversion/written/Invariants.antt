use Rattle.std.proofs.Common.{◌≡◌}
use Rattle.std.specs.Prelude.{IfSome, take}
use Rattle.std.specs.String.{string_bytes}
use Rattle.relay_admin.specs.rules.Grammar.{entries_of}
use Rattle.relay_settings.specs.ConvertedText.{converted_text}
use Rattle.relay_settings.proofs.conversion.written.Given as goal

abbrev pub invariant-loop-rule : goal.invariant-loop-rule
invariant-loop-rule l =
    IfSome (converted_text (entries_of (take l.rule-index l.rules))) (λ text. string_bytes l.text ≡ text)
