use Rattle.std.proofs.Common.{◌≡◌, ◌∙◌, ap, List, ℕ, ◌++◌}
use Rattle.base_types.specs.declared.direction.Dir.TheVariants.{Read, Write}
use Rattle.lockword_core.specs.Signals.{signals_in}
use Rattle.lockword_core.specs.LockState.{census, encoded}
use Rattle.lockword_script.specs.TraceOutput.{printed_line, printed_of_events}
use Rattle.lockword_script.proofs.EventLemmas.{all_events, events_printed}
use Rattle.lockword_script.proofs.script_run.carry_out.Goals as goal

pub returns-clause-state : goal.returns-clause-state
returns-clause-state c =
    all_events c.args.machine.now c.answer_last.new.machine c.in_ok-answer.answer c.args.order.first c.args.order.count
    c.args.order.op c.requires.some c.in_ok-answer.ensures

pub returns-clause-text : goal.returns-clause-text
returns-clause-text c =
    let printed =
    events_printed c.args.machine.now c.answer_last.new.machine c.in_ok-answer.answer c.args.order.first
    c.args.order.count c.args.order.op c.in_ok-answer.ensures in
    let next = c.answer_last.new.machine in
    let line : printed_line c.in_ok-answer.answer c.shown.result.word c.shown.result.reading c.shown.result.writing
    c.shown.result.destroyed_by
    ≡ printed_line c.in_ok-answer.answer (encoded (census next)) (signals_in Read next.signals)
    (signals_in Write next.signals) next.destroyed_by =
    ap (λ (w : ℕ). printed_line c.in_ok-answer.answer w c.shown.result.reading c.shown.result.writing
    c.shown.result.destroyed_by) c.shown.ensures.word
    ∙ ap (λ (w : ℕ). printed_line c.in_ok-answer.answer (encoded (census next)) w c.shown.result.writing
    c.shown.result.destroyed_by) c.shown.ensures.reading
    ∙ ap (λ (w : ℕ). printed_line c.in_ok-answer.answer (encoded (census next))
    (signals_in Read next.signals) w c.shown.result.destroyed_by) c.shown.ensures.writing
    ∙ ap (printed_line c.in_ok-answer.answer (encoded (census next)) (signals_in Read next.signals)
    (signals_in Write next.signals)) c.shown.ensures.destroyed_by in
    c.print_line.ensures ∙ ap (λ (t : List ℕ). c.reserve.new.self.items ++ t) (line ∙ printed)
    ∙ ap (λ (t : List ℕ). t ++ printed_of_events c.args.machine.now c.args.order.first c.args.order.count
    c.args.order.op) c.reserve.ensures.items
