use Rattle.std.proofs.Common.{◌≡◌, ◌∙◌, List, ℕ, [], ◌∷◌, ◌++◌, append_assoc}
use Rattle.std.specs.Fmt.{decimal}
use Rattle.lockword_script.specs.TraceOutput.{answer_name, word_text, destroyer_text}
use Rattle.lockword_script.proofs.printed_line.print_line.Goals as goal

-- the pieces one after the other are the line
pub returns : goal.returns
returns c =
    let before : List ℕ = c.args.out.now.items in
    let name : List ℕ = answer_name c.args.answer in
    let word : List ℕ = word_text c.args.shown.word in
    let reading : List ℕ = decimal c.args.shown.reading in
    let writing : List ℕ = decimal c.args.shown.writing in
    let destroyer : List ℕ = destroyer_text c.args.shown.destroyed_by in
    let pieces : c.append-6.new.out.items ≡ (((((((((before ++ name) ++ 32 ∷ []) ++ word) ++ 32 ∷ []) ++ reading)
    ++ 32 ∷ []) ++ writing) ++ 32 ∷ []) ++ destroyer) ++ 10 ∷ [] = cc in
    pieces ∙ simp append_assoc
