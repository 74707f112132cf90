use Rattle.std.proofs.Common.{◌≡◌, ◌∙◌}
use Rattle.lockword.proofs.Words.{rules, sym, Ok, stepped_word}
use Rattle.lockword_core.specs.declared.transition.Kind.TheVariants as kind
use Rattle.lockword.proofs.WordTests.{is_stepped, came}
use Rattle.lockword.proofs.SubtractionSteps.{subtracts, Subtracted, as_answered, decides}
use Rattle.lockword.proofs.holders.LockWord.subtract_reference.Goals as goal

pub fetch_sub-found-requires : goal.fetch_sub-found-requires
fetch_sub-found-requires g c = (search rules, search rules, subtracts _ _ _ _ _ c.requires.allowed)

pub unreachable-requires : goal.unreachable-requires
unreachable-requires g c =
    let n = c.fetch_sub-found.result in
    let did = c.fetch_sub-found.ensures.2 in
    c.in_default.not-Ok _ (is_stepped n kind.Decref c.word_step.result did.0.is_word c.word_step.ensures.fields
    ∙ did.1.2)

pub returns-clause-step : goal.returns-clause-step
returns-clause-step g c =
    let n = c.fetch_sub-found.result in
    let did = c.fetch_sub-found.ensures.2 in
    let ok : c.word_step.result ≡ Ok (c.in-Ok.field-0-0, c.in-Ok.after) = search rules in
    let is : stepped_word n kind.Decref ≡ Ok (c.in-Ok.field-0-0, c.in-Ok.after) =
    sym (is_stepped n kind.Decref c.word_step.result did.0.is_word c.word_step.ensures.fields) ∙ ok in
    let now : Subtracted n c.in-Ok.after c.args.place.now c.fetch_sub-found.new.seat =
    as_answered did.1.0 _ n _ c.args.place.now c.fetch_sub-found.new.seat (did.1.1, did.1.2, did.1.3, did.1.4, did.1.5) is in
    came kind.Decref c.in-Ok.after n _ _ _ c.args.place.now.me.0.heard now.0 did.0 now.1 now.2 did.2
    c.fetch_sub-found.ensures.0 now.4

pub returns-clause-decided : goal.returns-clause-decided
returns-clause-decided g c =
    let n = c.fetch_sub-found.result in
    let did = c.fetch_sub-found.ensures.2 in
    let ok : c.word_step.result ≡ Ok (c.in-Ok.field-0-0, c.in-Ok.after) = search rules in
    let is : stepped_word n kind.Decref ≡ Ok (c.in-Ok.field-0-0, c.in-Ok.after) =
    sym (is_stepped n kind.Decref c.word_step.result did.0.is_word c.word_step.ensures.fields) ∙ ok in
    decides _ n _ _ c.requires.allowed did.0
    (as_answered did.1.0 _ n _ c.args.place.now c.fetch_sub-found.new.seat
    (did.1.1, did.1.2, did.1.3, did.1.4, did.1.5) is) c.fetch_sub-found.ensures.0
