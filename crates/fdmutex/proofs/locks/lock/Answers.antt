use Rattle.std.proofs.Common.{rules, refl, ◌∙◌}
use Rattle.lockword.specs.Marks.{Place}
use Rattle.lockword.proofs.HeardSteps.{goes_on_on}
use Rattle.lockword.proofs.HalfHome.{same_home}
use Rattle.fdmutex.proofs.Hearing.{hears_on}
use Rattle.fdmutex.proofs.Waits.{no_end_made, waited_again}
use Rattle.fdmutex.proofs.locks.lock.Goals as goal

pub loop-preserved-in-Queued : goal.loop-preserved-in-Queued
loop-preserved-in-Queued g c =
    let first : Place g.row.R.Denot g.row.W.Denot = c.args.seat.place in
    let free : Place g.row.R.Denot g.row.W.Denot = c.loop.seat.place in
    let waits : Place g.row.R.Denot g.row.W.Denot = c.in-Queued.wait.place in
    let back : Place g.row.R.Denot g.row.W.Denot = c.await_signal-seat.result.place in
    let queued = no_end_made {R = g.row.R.Denot} {W = g.row.W.Denot} _ _ free waits refl refl refl
    c.in-Queued.ensures.answer.1 in
    let woken = c.await_signal-seat.ensures.no_end in
    let before = c.loop.invariant.1 in (
      search rules,
      (woken.0 ∙ queued.0 ∙ before.0, woken.1 ∙ queued.1 ∙ before.1, woken.2 ∙ queued.2 ∙ before.2),
      goes_on_on _ _ _ (goes_on_on _ _ _ c.loop.invariant.2 (hears_on _ _ _ _ c.in-Queued.ensures.answer.1))
          c.await_signal-seat.ensures.heard,
      waited_again {R = g.row.R.Denot} {W = g.row.W.Denot} g.D.Direction.dir first free waits back
          c.loop.invariant.3 c.in-Queued.ensures.answer.1 c.await_signal-seat.ensures.did,
    )

pub returns-in-Held-clause-half : goal.returns-in-Held-clause-half
returns-in-Held-clause-half g c = record {
  times = c.loop.invariant.3.times;
  home = same_home _ _ _ _ _ _ refl refl c.loop.invariant.3.did c.in-Held.ensures.half;
}

pub returns-in-Held-clause-heard : goal.returns-in-Held-clause-heard
returns-in-Held-clause-heard g c = goes_on_on _ _ _ c.loop.invariant.2 (hears_on _ _ _ _ c.in-Held.ensures.answer.1)
