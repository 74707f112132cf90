use Rattle.readiness.specs.Agenda.{step_for}
use Rattle.readiness.proofs.ResumingLemmas.{one_more_made_at, all_are_made_at}
use Rattle.readiness.proofs.tasks.Tasks.resume_each.Goals as goal

pub loop-token-preserved : goal.loop-token-preserved
loop-token-preserved g c = one_more_made_at (step_for c.args.why)
    g.H.Host.awaited (g.H.Host.tells c.args.host.now) (g.H.Host.tells c.loop-token.host) (g.H.Host.tells c.resume.new.host)
    c.args.self.now c.loop-token.self c.resume.new.self c.args.tokens.now c.loop-token.token-index _ c.loop-token-test.true
    c.loop-token.invariant c.resume.ensures.made

pub returns : goal.returns
returns g c = all_are_made_at (step_for c.args.why)
    g.H.Host.awaited (g.H.Host.tells c.args.host.now) (g.H.Host.tells c.loop-token.host) c.args.self.now c.loop-token.self
    c.args.tokens.now c.loop-token.token-index c.loop-token-test.false c.loop-token.invariant
