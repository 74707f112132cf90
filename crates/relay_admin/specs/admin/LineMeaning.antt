-- What a line is before anybody is asked. No public clause cites this module.
use Rattle.std.specs.Prelude.{◌≡◌}
use Rattle.relay_admin.specs.Words.{ℕ, List, Option, None}
use Rattle.relay_admin.specs.declared.admin.line_answer.LineIs.{LineIs}
use Rattle.relay_admin.specs.declared.admin.line_answer.LineIs.TheVariants as line_is
use Rattle.relay_admin.specs.admin.Command.{SpellsCommand, end_of}
use Rattle.relay_admin.specs.admin.Parts.{said_of}
use Rattle.relay_admin.specs.admin.Progress.{AnswersLine}
use Rattle.relay_admin.specs.admin.Reply.{Exchange}

-- it asks nothing and brings this reply; or it asks this
abbrev pub LineMeans : {A : Type 0} → LineIs A → List ℕ → Type 0
LineMeans (line_is.Answered reply end) line =
    (asked : Option (List Exchange)) → AnswersLine asked asked line (said_of reply) end
LineMeans (line_is.Asks question) line = SpellsCommand line question × (end_of question ≡ None)
