use Rattle.std.proofs.Common.{◌≡◌, ◌∙◌, Err}
use Rattle.lockword.proofs.Words.{rules, sym, ap, subst, Ok, true, allows, op_of, stepped_word}
use Rattle.lockword_core.specs.declared.transition.Refused.TheVariants as why
use Rattle.lockword.specs.Steps.{HasSlots}
use Rattle.lockword.proofs.LookSteps.{looks}
use Rattle.lockword.proofs.WordTests.{is_stepped, came_after, lost, refused_closed, refused_draining, refused_full}
use Rattle.lockword.proofs.WordTests.{no_misuse}
use Rattle.lockword.proofs.StateSteps.{moves}
use Rattle.lockword.proofs.holders.LockWord.try_step.Goals as goal

pub load-found-requires : goal.load-found-requires
load-found-requires g c = (search rules, search rules, looks _ _ _ _ _)

pub compare_exchange-requires : goal.compare_exchange-requires
compare_exchange-requires g c =
    let n = c.load-found.result in
    let told = c.load-found.ensures.2 in
    let ok : c.word_step.result ≡ Ok (c.in-Ok.next, c.in-Ok.after) = search rules in
    let is : stepped_word n c.args.kind ≡ Ok (c.in-Ok.next, c.in-Ok.after) =
    sym (is_stepped n c.args.kind c.word_step.result told.1.is_word c.word_step.ensures.fields) ∙ ok in
    let may : allows c.load-found.new.seat.me.0.stake (op_of c.args.kind) ≡ true =
    ap (λ me. allows me.0.stake (op_of c.args.kind)) told.2 ∙ c.requires.allowed in
    let has : HasSlots c.args.kind c.load-found.new.seat.me.1 =
    subst (λ me. HasSlots c.args.kind me.1) (sym told.2) c.requires.slots in
    (search rules, search rules, moves _ _ _ _ _ _ _ _ _ c.in-Ok.after c.requires.kind is may has)

pub unreachable-requires : goal.unreachable-requires
unreachable-requires g c =
    let n = c.load-found.result in
    let told = c.load-found.ensures.2 in
    let err : c.word_step.result ≡ Err why.Misuse = search rules in
    let is : stepped_word n c.args.kind ≡ Err why.Misuse =
    sym (is_stepped n c.args.kind c.word_step.result told.1.is_word c.word_step.ensures.fields) ∙ err in
    no_misuse c.args.kind c.args.place.now.me.0.stake n told.1.shows c.requires.allowed is

pub returns-then-compare_exchange-found-clause-step : goal.returns-then-compare_exchange-found-clause-step
returns-then-compare_exchange-found-clause-step g c =
    let n = c.load-found.result in
    let told = c.load-found.ensures.2 in
    let ok : c.word_step.result ≡ Ok (c.in-Ok.next, c.in-Ok.after) = search rules in
    let is : stepped_word n c.args.kind ≡ Ok (c.in-Ok.next, c.in-Ok.after) =
    sym (is_stepped n c.args.kind c.word_step.result told.1.is_word c.word_step.ensures.fields) ∙ ok in
    came_after c.args.kind _ c.in-Ok.after n c.in-Ok.next c.args.place.now c.load-found.new.seat
    c.compare_exchange.new.seat told.0 c.requires.kind told.1 is told.2 told.3.goes_on
    (c.compare_exchange.ensures.2.0 c.if-compare_exchange-found.true)
    (c.compare_exchange.ensures.0 ∙ c.load-found.ensures.0)

pub returns-else-compare_exchange-found-clause-step : goal.returns-else-compare_exchange-found-clause-step
returns-else-compare_exchange-found-clause-step g c =
    let n = c.load-found.result in
    let told = c.load-found.ensures.2 in
    let ok : c.word_step.result ≡ Ok (c.in-Ok.next, c.in-Ok.after) = search rules in
    let is : stepped_word n c.args.kind ≡ Ok (c.in-Ok.next, c.in-Ok.after) =
    sym (is_stepped n c.args.kind c.word_step.result told.1.is_word c.word_step.ensures.fields) ∙ ok in
    lost c.args.kind c.in-Ok.after n c.in-Ok.next c.args.place.now c.compare_exchange.new.seat told.0 told.1 is
    (c.compare_exchange.ensures.2.1 c.if-compare_exchange-found.false ∙ told.2) told.3.goes_on
    (c.compare_exchange.ensures.0 ∙ c.load-found.ensures.0)

pub returns-in-Err-Closed-clause-step : goal.returns-in-Err-Closed-clause-step
returns-in-Err-Closed-clause-step g c =
    let n = c.load-found.result in
    let told = c.load-found.ensures.2 in
    let err : c.word_step.result ≡ Err why.Closed = search rules in
    let is : stepped_word n c.args.kind ≡ Err why.Closed =
    sym (is_stepped n c.args.kind c.word_step.result told.1.is_word c.word_step.ensures.fields) ∙ err in
    refused_closed c.args.kind n c.args.place.now c.load-found.new.seat told.0 told.1 is told.2
    told.3.goes_on c.load-found.ensures.0

pub returns-in-Err-Draining-clause-step : goal.returns-in-Err-Draining-clause-step
returns-in-Err-Draining-clause-step g c =
    let n = c.load-found.result in
    let told = c.load-found.ensures.2 in
    let err : c.word_step.result ≡ Err why.Draining = search rules in
    let is : stepped_word n c.args.kind ≡ Err why.Draining =
    sym (is_stepped n c.args.kind c.word_step.result told.1.is_word c.word_step.ensures.fields) ∙ err in
    refused_draining c.args.kind n c.args.place.now c.load-found.new.seat told.0 told.1 is told.2
    told.3.goes_on c.load-found.ensures.0

pub returns-in-Err-TooMany-clause-step : goal.returns-in-Err-TooMany-clause-step
returns-in-Err-TooMany-clause-step g c =
    let n = c.load-found.result in
    let told = c.load-found.ensures.2 in
    let err : c.word_step.result ≡ Err why.TooMany = search rules in
    let is : stepped_word n c.args.kind ≡ Err why.TooMany =
    sym (is_stepped n c.args.kind c.word_step.result told.1.is_word c.word_step.ensures.fields) ∙ err in
    refused_full c.args.kind n c.fields_of.result c.args.place.now c.load-found.new.seat told.0 told.1
    is c.fields_of.ensures.fits c.fields_of.ensures.same told.2 told.3 c.load-found.ensures.0
