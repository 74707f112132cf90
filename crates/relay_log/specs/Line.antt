-- How a line of the log is spelled.
use Rattle.std.specs.Prelude.{ℕ, List, [], ◌∷◌, ◌++◌, Option, Some, None}
use Rattle.std.specs.Fmt.{decimal}
use Rattle.relay_log.specs.declared.words.TheConstants.{NO_ID}
use Rattle.relay_log.specs.declared.line.LogLine.{LogLine}
use Rattle.relay_log.specs.Moment.{moment_text}
use Rattle.relay_log.specs.Ended.{ended_text}

-- a text and the space behind it
abbrev pub field : List ℕ → List ℕ
field text = text ++ 32 ∷ []

-- an id, or a hyphen where there is none
abbrev pub id_text : Option ℕ → List ℕ
id_text (Some id) = decimal id
id_text None = NO_ID.now

-- the first six fields: when, of which rule, and who
unfoldable pub parties_text : LogLine → List ℕ
parties_text l = field (moment_text l.moment) ++ (field l.rule.now ++ (field (id_text l.client_id)
    ++ (field (id_text l.target_id) ++ (field l.client.now ++ field l.target.now))))

-- the bytes both ways, and how long it stood
unfoldable pub counts_text : LogLine → List ℕ
counts_text l = field (decimal l.up) ++ (field (decimal l.down) ++ field (decimal l.milliseconds))

-- a line: its fields in order, one space between two of them, and a line feed
abbrev pub line_text : LogLine → List ℕ
line_text l = parties_text l ++ (counts_text l ++ (ended_text l.ended ++ 10 ∷ []))
