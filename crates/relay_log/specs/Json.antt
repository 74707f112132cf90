-- How a line of the log is spelled as a JSON object (RFC 8259): the fields of the line of text, in their
-- order, each with its name.
use Rattle.std.specs.Prelude.{ℕ, ◌/◌, ◌%◌, ◌==◌, ◌||◌, nat_lt, List, [], ◌∷◌, ◌++◌, Option, Some, None}
use Rattle.std.specs.Prelude.{codes, if◌then◌else◌}
use Rattle.std.specs.Char.{digit_char}
use Rattle.std.specs.List.{flat_map}
use Rattle.std.specs.Fmt.{decimal}
use Rattle.relay_log.specs.declared.line.LogLine.{LogLine}
use Rattle.relay_log.specs.Moment.{moment_text}
use Rattle.relay_log.specs.Ended.{ended_text}

-- a control character by its number, with two hexadecimal digits at the end: `\u000a`
abbrev pub control_text : ℕ → List ℕ
control_text byte = 92 ∷ 117 ∷ 48 ∷ 48 ∷ digit_char (byte / 16) ∷ digit_char (byte % 16) ∷ []

-- what a string has for a byte of its text: a control character is told by its number; a backslash
-- stands before a quotation mark and before another backslash; any other byte is itself
abbrev pub string_byte : ℕ → List ℕ
string_byte byte =
    if nat_lt byte 32 then control_text byte
    else if byte == 34 || byte == 92 then 92 ∷ byte ∷ []
    else byte ∷ []

-- what a string has for a text
abbrev pub string_content : List ℕ → List ℕ
string_content text = flat_map string_byte text

-- a text in which nothing needs an escape, between quotation marks
abbrev pub in_quotes : List ℕ → List ℕ
in_quotes text = 34 ∷ (text ++ 34 ∷ [])

-- a text as a string
abbrev pub string_text : List ℕ → List ℕ
string_text text = in_quotes (string_content text)

-- a name as it stands before its value, with a colon
abbrev pub member_name : List ℕ → List ℕ
member_name name = 34 ∷ (name ++ 34 ∷ 58 ∷ [])

-- a name, its value, and the comma before the next name
abbrev pub member : List ℕ → List ℕ → List ℕ
member name value = member_name name ++ (value ++ 44 ∷ [])

-- an id, or null where there is none
abbrev pub id_value : Option ℕ → List ℕ
id_value (Some id) = decimal id
id_value None = codes "null"

-- when
unfoldable pub time_member : LogLine → List ℕ
time_member l = member (codes "time") (in_quotes (moment_text l.moment))

-- of which rule, and by which ids
unfoldable pub rule_members : LogLine → List ℕ
rule_members l = member (codes "rule") (string_text l.rule.now)
    ++ (member (codes "client_id") (id_value l.client_id) ++ member (codes "target_id") (id_value l.target_id))

-- when, of which rule, and who
unfoldable pub party_members : LogLine → List ℕ
party_members l = time_member l ++ (rule_members l
    ++ (member (codes "client") (string_text l.client.now) ++ member (codes "target") (string_text l.target.now)))

-- the bytes both ways, and how long it stood
unfoldable pub count_members : LogLine → List ℕ
count_members l =
    member (codes "up") (decimal l.up) ++ (member (codes "down") (decimal l.down) ++ member (codes "ms") (decimal l.milliseconds))

-- how it ended: the last name and its value
unfoldable pub how_member : LogLine → List ℕ
how_member l = member_name (codes "how") ++ in_quotes (ended_text l.ended)

-- a line: its names and values between braces, and a line feed
abbrev pub json_text : LogLine → List ℕ
json_text l = 123 ∷ (party_members l ++ (count_members l ++ (how_member l ++ 125 ∷ 10 ∷ [])))
