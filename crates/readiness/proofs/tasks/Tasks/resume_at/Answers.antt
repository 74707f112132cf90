use Rattle.std.proofs.Common.{◌≡◌, None, Some}
use Rattle.readiness.specs.LoopToken.{token_of}
use Rattle.readiness.proofs.LateLemmas.{resumed_at, nobody_at}
use Rattle.readiness.proofs.tasks.Tasks.resume_at.Goals as goal

pub returns-in-Some : goal.returns-in-Some
returns-in-Some g c =
    let named = c.in-Some.ensures.named in
    resumed_at g.H.Host.awaited (g.H.Host.tells c.args.host.now) (g.H.Host.tells c.resume.new.host) c.args.place
    c.args.why c.args.self.now c.resume.new.self c.in-Some.token named.0 named.1 named.2 named.3
    c.resume.ensures.made c.resume.ensures.apart c.resume.ensures.left

pub returns-in-None : goal.returns-in-None
returns-in-None g c = nobody_at g.H.Host.awaited (g.H.Host.tells c.args.host.now) c.args.place c.args.why
    c.args.self.now
    (λ serial stands below fits.
    let some : None ≡ Some (token_of 0 c.args.place serial) = c.in-None.ensures.all serial stands below fits in cc)
