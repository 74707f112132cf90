use Rattle.std.proofs.Common.{◌∙◌}
use Rattle.lockword_core.proofs.Words.{ℕ, Result, sym, subst, After, Refused, outcome, transition, op_of, Tells}
use Rattle.lockword_core.specs.WordStep.{TellsTransition}
use Rattle.lockword_core.proofs.WordLemmas.{step_same}
use Rattle.lockword_core.proofs.WordRefines.{tells}
use Rattle.lockword_core.proofs.StateLemmas.{tells_transition}
use Rattle.lockword_core.proofs.transition.word_step.Goals as goal

pub returns-clause-fields : goal.returns-clause-fields
returns-clause-fields c f fits same = c.step.ensures ∙ step_same f c.args.kind c.args.word fits same

pub returns-clause-census : goal.returns-clause-census
returns-clause-census c counts own good counted is may =
    subst (λ (r : Result (ℕ × After) Refused). Tells counts own c.args.kind (outcome counts own (op_of c.args.kind)) r)
    (sym c.step.ensures)
    (tells counts own c.args.kind c.args.word good counted is may)

pub returns-clause-state : goal.returns-clause-state
returns-clause-state c s holder good is may =
    subst (λ (r : Result (ℕ × After) Refused). TellsTransition s c.args.kind
    (transition s holder (op_of c.args.kind)) r) (sym c.step.ensures)
    (tells_transition s holder c.args.kind c.args.word good is may)
