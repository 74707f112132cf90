use Rattle.std.proofs.Common.{◌≡◌, ◌∙◌, refl, ap, sym, Bool, true, false, List, [], ◌∷◌, map, Option}
use Rattle.std.proofs.Common.{None, codes, Bor, inl, inr, if◌then◌else◌}
use Rattle.std.specs.List.{list_any}
use Rattle.std.specs.Str.{bytes_eq}
use Rattle.std.proofs.lemmas.Result.{IfOk-weaker}
use Rattle.clap.specs.Faults.{fault_of, is_simple_and_free}
use Rattle.clap.specs.Kinds.{HasKind, IsAmong, Kinds}
use Rattle.clap.specs.Values.{kind_of}
use Rattle.clap.specs.Walk.{Text}
use Rattle.clap.specs.Simple.{app_of, is_simple, subcommand_of, subcommand_rows_of}
use Rattle.clap.specs.declared.error.Error.{Error}
use Rattle.clap.specs.declared.error.kind.ErrorKind.{ErrorKind}
use Rattle.clap.specs.declared.error.kind.ErrorKind.TheVariants as kind
use Rattle.clap.proofs.OnLiterals.{clap_on_literals}
use Rattle.relay_command.specs.CommandLine.{Asked, found_job, has_operand, is_end, job_asked, options_of}
use Rattle.relay_command.specs.CommandLine.{program, unless_faulty}
use Rattle.relay_command.proofs.job.job_of.Goals as goal

is_free_program : is_simple_and_free program ≡ true
unfolding clap_on_literals
is_free_program = refl

is_simple_program : is_simple program ≡ true
unfolding clap_on_literals
is_simple_program = refl

-- among the words behind references is a `--` where the references say so
ends_behind : (words : List (Bor Text))
    → list_any is_end (map (λ (word : Bor Text). word.now) words)
    ≡ list_any (λ (word : Bor Text). bytes_eq word.now (codes "--")) words
ends_behind [] = refl
ends_behind (w ∷ ws) = rw (ends_behind ws) refl

chosen : (ended : Bool) (faults : Kinds) (asked : Option Asked) → ended ≡ false → faults ≡ []
    → (if ended then None else unless_faulty faults asked) ≡ asked
chosen true faults asked e f = absurd (cc)
chosen false [] asked e f = refl
chosen false (x ∷ xs) asked e f = absurd (cc)

left_out : (ended : Bool) (faults : Kinds) (asked : Option Asked) → (faults ≡ [] → ⊥)
    → (if ended then None else unless_faulty faults asked) ≡ None
left_out true faults asked faulty = refl
left_out false [] asked faulty = absurd (faulty refl)
left_out false (x ∷ xs) asked faulty = refl

left_out_ended : (ended : Bool) (faults : Kinds) (asked : Option Asked) → ended ≡ true
    → (if ended then None else unless_faulty faults asked) ≡ None
left_out_ended true faults asked e = refl
left_out_ended false faults asked e = absurd (cc)

among_none : (k : ErrorKind) (kinds : Kinds) → IsAmong k kinds → kinds ≡ [] → ⊥
among_none k [] among none = among
among_none k (x ∷ xs) among none = absurd (cc)

-- an error that isn't want of memory has a kind
has_fault : (kinds : Kinds) (e : Error) → HasKind kinds e → (kind_of e ≡ kind.OutOfMemory → ⊥) → kinds ≡ [] → ⊥
has_fault kinds e (inl memory) other none = other memory
has_fault kinds e (inr among) other none = among_none (kind_of e) kinds among none

pub returns-then-contains : goal.returns-then-contains
returns-then-contains c =
    let words : List Text = map (λ (word : Bor Text). word.now) c.args.words.now in
    let same : map (λ (word : Bor Text). word.now) c.options_of-options.result.now ≡ options_of words = c.options_of-options.ensures in
    let ended : list_any (λ word. bytes_eq word.now (codes "--")) c.options_of-options.result.now ≡ true =
    sym c.contains.ensures.value ∙ c.if-contains.true in
    let operand : has_operand words ≡ true =
    ap (list_any is_end) (sym same) ∙ ends_behind c.options_of-options.result.now ∙ ended in
    sym (left_out_ended (has_operand words) (fault_of program (options_of words))
    (found_job (subcommand_of program (options_of words))) operand)

pub returns-in-Ok : goal.returns-in-Ok
returns-in-Ok c =
    let words : List Text = map (λ (word : Bor Text). word.now) c.args.words.now in
    let given : List Text = map (λ (word : Bor Text). word.now) c.options_of-options.result.now in
    let same : given ≡ options_of words = c.options_of-options.ensures in
    let ended : list_any (λ word. bytes_eq word.now (codes "--")) c.options_of-options.result.now ≡ false =
    sym c.contains.ensures.value ∙ c.if-contains.false in
    let operand : has_operand words ≡ false =
    ap (list_any is_end) (sym same) ∙ ends_behind c.options_of-options.result.now ∙ ended in
    let is : app_of c.in_ok-command.field-0 ≡ program = c.in_ok-command.ensures in
    let found : subcommand_rows_of c.in-Ok.matches ≡ subcommand_of program (options_of words) =
    (c.in-Ok.ensures.matches (ap is_simple is ∙ is_simple_program)).1
    ∙ ap (λ a. subcommand_of a given) is ∙ ap (subcommand_of program) same in
    let faultless : fault_of program (options_of words) ≡ [] =
    sym (ap (λ a. fault_of a given) is ∙ ap (fault_of program) same)
    ∙ c.in-Ok.ensures.kinds (ap is_simple_and_free is ∙ is_free_program) in
    let asked : job_asked words ≡ found_job (subcommand_of program (options_of words)) =
    chosen (has_operand words) (fault_of program (options_of words))
    (found_job (subcommand_of program (options_of words))) operand faultless in
    IfOk-weaker c.job_in.result _ _ (λ job h. h ∙ ap found_job found ∙ sym asked) c.job_in.ensures

pub returns-in-Err-2 : goal.returns-in-Err-2
returns-in-Err-2 c =
    let words : List Text = map (λ (word : Bor Text). word.now) c.args.words.now in
    let given : List Text = map (λ (word : Bor Text). word.now) c.options_of-options.result.now in
    let same : given ≡ options_of words = c.options_of-options.ensures in
    let is : app_of c.in_ok-command.field-0 ≡ program = c.in_ok-command.ensures in
    let kinds = c.in-Err.ensures.kinds (ap is_simple_and_free is ∙ is_free_program) in
    let other : kind_of c.in-Err.error ≡ kind.OutOfMemory → ⊥ = λ memory.
    let no_memory : c.kind.result ≡ kind.OutOfMemory = c.kind.ensures ∙ memory in
    let same_kind : c.eq.result ≡ true = rw no_memory at c.eq.ensures in
    absurd (cc) in
    let faulty : fault_of program (options_of words) ≡ [] → ⊥ = λ none.
    has_fault (fault_of (app_of c.in_ok-command.field-0) given) c.in-Err.error kinds other
    (ap (λ a. fault_of a given) is ∙ ap (fault_of program) same ∙ none) in
    sym (left_out (has_operand words) (fault_of program (options_of words))
    (found_job (subcommand_of program (options_of words))) faulty)
