use Rattle.std.proofs.Common.{◌∙◌, sym, ap, List, [], ◌++◌, ℕ}
use Rattle.std.proofs.lemmas.List.{append-nil}
use Rattle.stream_base.specs.Lines.{ended_lines, lines_of}
use Rattle.stream_base.proofs.LineLemmas.{is_of_lines, lines_of-ended_lines, lines_of-last_line}
use Rattle.stream_base.proofs.laws.lines_of_a_text.Goals as goal

pub returns-clause-ended : goal.returns-clause-ended
returns-clause-ended c lines a = ap lines_of (sym (append-nil (ended_lines lines))) ∙ lines_of-ended_lines lines [] a
    ∙ append-nil lines

pub returns-clause-unended : goal.returns-clause-unended
returns-clause-unended c lines last a l some = lines_of-ended_lines lines last a
    ∙ ap (λ (t : List (List ℕ)). lines ++ t) (lines_of-last_line last l some)

pub returns-clause-each : goal.returns-clause-each
returns-clause-each c text = is_of_lines text
