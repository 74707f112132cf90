use Rattle.std.proofs.Common.{◌≡◌, ◌∙◌, sym, ap, refl, arith}
use Rattle.relay_core.specs.Passing.{Close, rest_of}
use Rattle.relay_core.proofs.PassingLemmas.{within, passed_within, stop_after, if_err}
use Rattle.relay_core.proofs.copying.Copying.turn.Goals as goal

-- the writer is told of the reader's end
pub returns-then-self-clause-stopped : goal.returns-then-self-clause-stopped
returns-then-self-clause-stopped g c =
    let close : c.args.self.now ≡ Close =
    sym c.self.view_is ∙ ap (λ at_end. rest_of at_end c.self.inside.kept.bytes) c.if-self.true in
    rw close (stop_after refl (λ stays. within 0 1 (omega arith) (omega arith) (stays c.args.share.now))
    (λ ended over. passed_within 1 (omega arith) (over c.args.share.now)) c.close_once.ensures)

-- what is kept is offered, without a read
pub returns-clause-stopped : goal.returns-clause-stopped
returns-clause-stopped g c = if_err c.go_on.result _ _ (λ step stop. stop_after refl
    (λ stays. within 0 1 (omega arith) (omega arith) stays)
    (λ ended over. passed_within 1 (omega arith) over) stop) c.go_on.ensures.stopped
