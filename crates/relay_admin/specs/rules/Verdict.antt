-- What is said of a text, and in which words.
use Rattle.std.specs.Prelude.{◌≡◌, ℕ, List, [], ◌∷◌, ◌++◌, length, Option, Some, None, codes}
use Rattle.std.specs.Fmt.{decimal}
use Rattle.relay_admin.specs.rules.Grammar.{Entry}
use Rattle.relay_admin.specs.rules.Fault.{SaysRules, SaysFault}
use Rattle.relay_admin.specs.declared.rules.file.RulesFault.TheVariants as faults
use Rattle.relay_admin.specs.declared.rules.verdict.Verdict.{Verdict}
use Rattle.relay_admin.specs.declared.rules.verdict.Verdict.TheVariants.{Rules, Bad, BadConfig}

-- the text is a rules file with so many rules, or this is its first fault; of a configuration nothing
-- is said here
abbrev pub IsVerdict : List ℕ → Verdict → Type 0
IsVerdict text (Rules count) =
    (entries : List Entry) × SaysRules text entries × (length entries ≡ count)
IsVerdict text (Bad fault) = SaysFault text fault
IsVerdict text (BadConfig why) = ⊥

-- the words of a verdict before its number
abbrev pub verdict_words : Verdict → List ℕ
verdict_words (Rules count) = codes "rules "
verdict_words (Bad faults.TooLong) = codes "bad rules: too long"
verdict_words (Bad (faults.BadLine line)) = codes "bad rules: line "
verdict_words (Bad (faults.TooMany line)) = codes "bad rules: too many at line "
verdict_words (Bad (faults.SameName line)) = codes "bad rules: same name at line "
verdict_words (Bad (faults.SameListen line)) = codes "bad rules: same listen address at line "
verdict_words (BadConfig why) = codes "bad config: "

-- the number of rules, or of the line
abbrev pub verdict_number : Verdict → Option ℕ
verdict_number (Rules count) = Some count
verdict_number (Bad faults.TooLong) = None
verdict_number (Bad (faults.BadLine line)) = Some line
verdict_number (Bad (faults.TooMany line)) = Some line
verdict_number (Bad (faults.SameName line)) = Some line
verdict_number (Bad (faults.SameListen line)) = Some line
verdict_number (BadConfig why) = None

-- the text of a number, or nothing
abbrev pub number_text : Option ℕ → List ℕ
number_text (Some number) = decimal number
number_text None = []

-- what is said of a configuration's fault
abbrev pub verdict_why : Verdict → List ℕ
verdict_why (BadConfig why) = why.bytes
verdict_why other = []

-- the line that says a verdict, with its line feed
abbrev pub verdict_line : Verdict → List ℕ
verdict_line verdict = verdict_words verdict ++ number_text (verdict_number verdict) ++ verdict_why verdict ++ 10 ∷ []

-- 0 for rules, 1 for none
abbrev pub verdict_status : Verdict → ℕ
verdict_status (Rules count) = 0
verdict_status (Bad fault) = 1
verdict_status (BadConfig why) = 1
