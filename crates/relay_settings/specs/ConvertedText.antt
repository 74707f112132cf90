-- The configuration that is written of a rules file.
use Rattle.std.specs.Prelude.{◌==◌, ℕ, List, [], ◌∷◌, ◌++◌, ◌/◌, ◌%◌, Option, Some, None, codes, if◌then◌else◌}
use Rattle.std.specs.Fmt.{◌++?◌, debug_str, decimal}
use Rattle.relay_admin.specs.rules.Addr.{address_text}
use Rattle.relay_admin.specs.rules.Grammar.{Entry}

-- the text of a time: so many of the largest unit of which it is a whole number
abbrev pub short_time : ℕ → List ℕ
short_time ms =
    if ms % 3600000 == 0 then decimal (ms / 3600000) ++ codes "h"
    else if ms % 60000 == 0 then decimal (ms / 60000) ++ codes "m"
    else if ms % 1000 == 0 then decimal (ms / 1000) ++ codes "s"
    else decimal ms ++ codes "ms"

-- the line of an idle time, if there is one
abbrev pub idle_line : Option ℕ → List ℕ
idle_line None = []
idle_line (Some ms) = codes "idle = \"" ++ short_time ms ++ codes "\"\n"

-- the table of a rule behind an empty line, where its addresses are ASCII
abbrev pub rule_table : Entry → Option (List ℕ)
rule_table rule =
    Some (codes "\n[[rule]]\nname = \"" ++ rule.name ++ codes "\"\nlisten = [")
    ++? debug_str (address_text rule.listen)
    ++? Some (codes "]\ntarget = [{ at = ")
    ++? debug_str (address_text rule.target)
    ++? Some (codes " }]\n" ++ idle_line rule.idle)

-- the tables of rules, in their order
abbrev pub tables_of : List Entry → Option (List ℕ)
tables_of [] = Some []
tables_of (rule ∷ rules) = rule_table rule ++? tables_of rules

-- the whole text
abbrev pub converted_text : List Entry → Option (List ℕ)
converted_text rules =
    Some (codes "# The rules of a rules file. Options of serve have keys too.\n") ++? tables_of rules
