-- How one figure is spelled: its name, its labels, its value.
use Rattle.std.specs.Prelude.{ℕ, ◌+◌, ◌/◌, ◌%◌, ◌==◌, ◌||◌, List, [], ◌∷◌, ◌++◌, codes, if◌then◌else◌}
use Rattle.std.specs.List.{flat_map}
use Rattle.std.specs.Fmt.{decimal}
use Rattle.relay_metrics.specs.declared.family.Family.{Family}
use Rattle.relay_metrics.specs.Family.{name_text, head_text}

-- a space, the value and a line feed
unfoldable pub value_text : List ℕ → List ℕ
value_text value = 32 ∷ (value ++ 10 ∷ [])

-- a label: its key, an equals sign, and its value between quotation marks
unfoldable pub label_text : List ℕ → List ℕ → List ℕ
label_text key value = key ++ 61 ∷ 34 ∷ (value ++ 34 ∷ [])

-- a figure with labels: they stand in braces
unfoldable pub labelled_text : Family → List ℕ → ℕ → List ℕ
labelled_text f labels n = name_text f ++ 123 ∷ (labels ++ 125 ∷ value_text (decimal n))

-- a figure with one label
unfoldable pub sample_text : Family → List ℕ → List ℕ → ℕ → List ℕ
sample_text f key value n = labelled_text f (label_text key value) n

-- a figure of a rule with one label more, and a comma between the two
unfoldable pub rule_sample_text : Family → List ℕ → List ℕ → List ℕ → ℕ → List ℕ
rule_sample_text f rule key value n =
    labelled_text f (label_text (codes "rule") rule ++ 44 ∷ label_text key value) n

-- a byte of a label's value: a backslash stands before a quotation mark and before another backslash
abbrev pub escaped_byte : ℕ → List ℕ
escaped_byte byte = if byte == 34 || byte == 92 then 92 ∷ byte ∷ [] else byte ∷ []

-- a label's value
abbrev pub escaped : List ℕ → List ℕ
escaped value = flat_map escaped_byte value

-- a family of one figure, which has no label
unfoldable pub single_text : Family → ℕ → List ℕ
single_text f n = head_text f ++ (name_text f ++ value_text (decimal n))

-- the last decimal digit of a number
abbrev pub digit : ℕ → ℕ
digit n = 48 + n % 10

-- milliseconds as seconds, with three digits behind the point
unfoldable pub seconds_text : ℕ → List ℕ
seconds_text ms = decimal (ms / 1000) ++ 46 ∷ digit (ms / 100) ∷ digit (ms / 10) ∷ digit ms ∷ []
