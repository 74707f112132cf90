use Rattle.std.proofs.Common.{refl, arith}
use Rattle.relay_core.proofs.PassingLemmas.{within, then_passing, then_passed, stop_after, if_ok, if_err}
use Rattle.relay_core.proofs.copying.Copying.begin.Goals as goal

-- bytes were read, and written or kept
pub returns-in-Ok-Some-clause-passing : goal.returns-in-Ok-Some-clause-passing
returns-in-Ok-Some-clause-passing g c =
    let read = rw c.in-Ok-Some.field-0-is at c.in-Ok-Some.ensures.bytes in
    rw c.requires.nothing (if_ok c.pass.result _ _
    (λ went. within 1 1 (omega arith) (omega arith) (then_passing (read c.args.share.now) went))
    c.pass.ensures.passing)

-- bytes were read, and none or not all are written
pub returns-in-Ok-Some-clause-stopped : goal.returns-in-Ok-Some-clause-stopped
returns-in-Ok-Some-clause-stopped g c =
    let read = rw c.in-Ok-Some.field-0-is at c.in-Ok-Some.ensures.bytes in
    rw c.requires.nothing (if_err c.pass.result _ _ (λ step stop. stop_after refl
    (λ went. within 0 1 (omega arith) (omega arith) (then_passing (read c.args.share.now) went))
    (λ ended over. then_passed (read c.args.share.now) over) stop) c.pass.ensures.stopped)

-- nothing was read
pub returns-in-Err-clause-stopped : goal.returns-in-Err-clause-stopped
returns-in-Err-clause-stopped g c = rw c.requires.nothing
    (stop_after refl (λ went. within 0 1 (omega arith) (omega arith) (went c.args.share.now))
    (λ ended over. over c.args.share.now) c.in-Err.ensures.stopped)
