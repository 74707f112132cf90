use Rattle.std.proofs.Common.{◌≡◌, ◌∙◌, refl, ap, sym, ℕ, Bool, true, false, List, map, Option, Some, None}
use Rattle.std.proofs.Common.{Bor, ◌-◌, length, option_map, if◌then◌else◌}
use Rattle.std.specs.Prelude.{slice_get, take}
use Rattle.std.specs.Option.{option_copied, option_map_or}
use Rattle.std.proofs.lemmas.List.{length-map, take-map}
use Rattle.std.proofs.lemmas.Option.{slice_get-map}
use Rattle.clap.specs.Walk.{Text}
use Rattle.relay_command.specs.CommandLine.{is_end, options_of}
use Rattle.relay_command.proofs.job.options_of.Goals as goal

abbrev text_of : Bor Text → Text
text_of word = word.now

-- the options among words behind references, where this is the last of them
by_last : (words : List (Bor Text)) (last : Option (Bor Text)) (ends : Bool)
    → slice_get words (length words - 1) ≡ last
    → option_map_or is_end (option_map text_of last) false ≡ ends
    → options_of (map text_of words)
    ≡ (if ends then take (length words - 1) (map text_of words) else map text_of words)
by_last words last ends found is =
    ap (λ (n : ℕ). if option_map_or is_end (slice_get (map text_of words) (n - 1)) false
    then take (n - 1) (map text_of words) else map text_of words) (length-map words text_of)
    ∙ ap (λ (o : Option Text). if option_map_or is_end o false
    then take (length words - 1) (map text_of words) else map text_of words)
    (slice_get-map text_of words (length words - 1) ∙ ap (option_map text_of) found)
    ∙ ap (λ (b : Bool). if b then take (length words - 1) (map text_of words) else map text_of words) is

pub returns-in-Some : goal.returns-in-Some
returns-in-Some c =
    let found : slice_get c.args.words.now (length c.args.words.now - 1) ≡ Some c.in-Some.last.now =
    sym c.last.ensures.value ∙ ap option_copied c.in-Some.is in
    let ends : is_end c.in-Some.last.now.now ≡ true = sym c.eq.ensures ∙ c.if-eq.true in
    sym (by_last c.args.words.now (Some c.in-Some.last.now) true found ends
    ∙ take-map text_of (length c.args.words.now - 1) c.args.words.now)

pub returns-in_default : goal.returns-in_default
returns-in_default c =
    let found : slice_get c.args.words.now (length c.args.words.now - 1) ≡ Some c.in-Some.last.now =
    sym c.last.ensures.value ∙ ap option_copied c.in-Some.is in
    let stays : is_end c.in-Some.last.now.now ≡ false = sym c.eq.ensures ∙ c.if-eq.false in
    sym (by_last c.args.words.now (Some c.in-Some.last.now) false found stays)

pub returns-in_default-2 : goal.returns-in_default-2
returns-in_default-2 c =
    let found : slice_get c.args.words.now (length c.args.words.now - 1) ≡ None =
    sym c.last.ensures.value ∙ ap option_copied c.in_default.is in
    sym (by_last c.args.words.now None false found refl)
