-- The two ways to write a log.
use Rattle.std.specs.Prelude.{ℕ, List, [], ◌∷◌, codes}
use Rattle.relay_log.specs.declared.format.Format.{Format}
use Rattle.relay_log.specs.declared.format.Format.TheVariants as format
use Rattle.relay_log.specs.declared.line.LogLine.{LogLine}
use Rattle.relay_log.specs.declared.words.TheConstants.{LOST}
use Rattle.relay_log.specs.Json.{json_text}
use Rattle.relay_log.specs.Line.{line_text}

-- a line, as text or as a JSON object
abbrev pub line_in_format : Format → LogLine → List ℕ
line_in_format format.Text line = line_text line
line_in_format format.Json line = json_text line

-- what stands before the number of lost lines
abbrev pub before_lost : Format → List ℕ
before_lost format.Text = LOST.now
before_lost format.Json = codes "{\"lost\":"

-- what stands behind that number
abbrev pub behind_lost : Format → List ℕ
behind_lost format.Text = 10 ∷ []
behind_lost format.Json = 125 ∷ 10 ∷ []
