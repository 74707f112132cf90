use Rattle.readiness.proofs.TurnLemmas.{none_yet, one_more}
use Rattle.readiness.proofs.tasks.Tasks.resume_all.Goals as goal

pub loop-place-init : goal.loop-place-init
loop-place-init g c = none_yet g.H.Host.awaited (g.H.Host.tells c.args.host.now) c.args.why c.args.self.now

pub loop-place-preserved : goal.loop-place-preserved
loop-place-preserved g c = one_more g.H.Host.awaited (g.H.Host.tells c.args.host.now)
    (g.H.Host.tells c.loop-place.host) (g.H.Host.tells c.resume_at.new.host) c.args.why c.args.self.now c.loop-place.self
    c.resume_at.new.self c.loop-place.place c.loop-place.invariant c.resume_at.ensures
