use Rattle.std.proofs.Common.{◌≡◌, ◌⊎◌, ◌∙◌, Option, Some, sym, ap, subst}
use Rattle.readiness.specs.declared.agenda.Why.{Why}
use Rattle.relay_conn.specs.Connection.{given_up_at, IfDialing, IsRelaying}
use Rattle.relay_conn.specs.Heard.{IsTime}
use Rattle.relay_conn.specs.declared.connection.Phase.{Phase}
use Rattle.relay_conn.specs.declared.connection.Phase.TheVariants as phase
use Rattle.relay_conn.specs.declared.dialing.Dialing.{Dialing}
use Rattle.relay_core.specs.declared.pair_tasks.PairNext.{PairNext}
use Rattle.relay_core.specs.declared.pair_tasks.PairNext.TheVariants.{Closes}
use Rattle.relay_conn.proofs.ConnectionLemmas.{connected, sought}
use Rattle.relay_conn.proofs.connection.Connection.go_on.Goals as goal

-- what is heard before the moment comes doesn't tell of it
early : {U D R : Type 0} (was new : Option (Phase U D R)) (old : Dialing U D R) (why : Why) (next : PairNext)
    → was ≡ Some (phase.Dialing old) → (IsTime why (given_up_at old) → ⊥)
    → IfDialing was (λ d. IsTime why (given_up_at d) → (next ≡ Closes) ⊎ IsRelaying new)
early was new old why next is before =
    subst (λ p. IfDialing p (λ d. IsTime why (given_up_at d) → (next ≡ Closes) ⊎ IsRelaying new)) (sym is)
    (λ late. absurd (before late))

-- its ways have begun, with what its dial was told
pub returns-in-Connected-clause-connects : goal.returns-in-Connected-clause-connects
returns-in-Connected-clause-connects g c =
    let its = c.in-Some-Dialing.field-0-is in
    let dials : c.in-Some-Dialing.field-0 ≡ phase.Dialing c.in-Some-Dialing.dialing = cc in
    connected _ _ _ c.in-Some-Dialing.dialing c.go_on-step.new.self c.args.why c.begin.result
    (c.in-Some-Dialing.is ∙ ap Some dials) c.go_on-step.ensures.kept c.begin.ensures.begun

-- its target was let go, after what its dial was told
pub returns-in-Seeks-clause-seeks : goal.returns-in-Seeks-clause-seeks
returns-in-Seeks-clause-seeks g c =
    let its = c.in-Some-Dialing.field-0-is in let step = c.go_on-step.ensures in
    let dials : c.in-Some-Dialing.field-0 ≡ phase.Dialing c.in-Some-Dialing.dialing = cc in
    sought _ _ c.in-Some-Dialing.dialing c.go_on-step.new.self c.args.dials.now c.go_on-step.new.dials c.args.why c.seek.result
    (c.in-Some-Dialing.is ∙ ap Some dials) step.kept (step.seeks c.in-Seeks.is) (step.over c.in-Seeks.is)
    (step.noted c.in-Seeks.is) c.seek.ensures.again c.seek.ensures.let_go

-- its moment hasn't come
pub returns-in-Seeks-clause-timely : goal.returns-in-Seeks-clause-timely
returns-in-Seeks-clause-timely g c =
    let its = c.in-Some-Dialing.field-0-is in
    let dials : c.in-Some-Dialing.field-0 ≡ phase.Dialing c.in-Some-Dialing.dialing = cc in
    early _ _ c.in-Some-Dialing.dialing c.args.why c.seek.result (c.in-Some-Dialing.is ∙ ap Some dials)
    (c.go_on-step.ensures.over c.in-Seeks.is)
