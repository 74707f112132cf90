use Rattle.std.proofs.Common.{◌∙◌, sym, ap, Bool, ◌&&◌, not}
use Rattle.std.specs.Char.{is_ascii_digit}
use Rattle.std.specs.List.{list_all}
use Rattle.config_values.proofs.HostNames.{last_part, part_is_bad, part_is_good}
use Rattle.config_values.proofs.host_name.are_labels.Goals as goal

pub returns-then-not-is_label : goal.returns-then-not-is_label
returns-then-not-is_label c =
    part_is_bad c.args.text.now c.loop-label.rest.now c.in-Some.label.now c.in-Some.behind.now _ c.loop-label.invariant
    c.in-Some.ensures.parts c.is_label.ensures c.if-not-is_label.true

pub loop-label-preserved : goal.loop-label-preserved
loop-label-preserved c =
    part_is_good c.args.text.now c.loop-label.rest.now c.in-Some.label.now c.in-Some.behind.now _ c.loop-label.invariant
    c.in-Some.ensures.parts c.is_label.ensures c.if-not-is_label.false

pub returns-then-is_label : goal.returns-then-is_label
returns-then-is_label c =
    let rest = c.loop-label.rest.now in
    let last = last_part c.args.text.now rest c.loop-label.invariant c.in_default.ensures.none in
    sym (last ∙ ap (λ (b : Bool). b && not (list_all is_ascii_digit rest)) (sym c.is_label-2.ensures ∙ c.if-is_label.true)
    ∙ ap not (sym c.are_digits.ensures))

pub returns-else-is_label : goal.returns-else-is_label
returns-else-is_label c =
    let rest = c.loop-label.rest.now in
    let last = last_part c.args.text.now rest c.loop-label.invariant c.in_default.ensures.none in
    let none = sym c.is_label-2.ensures ∙ c.if-is_label.false in
    c.if-is_label.false ∙ sym (last ∙ ap (λ (b : Bool). b && not (list_all is_ascii_digit rest)) none)
