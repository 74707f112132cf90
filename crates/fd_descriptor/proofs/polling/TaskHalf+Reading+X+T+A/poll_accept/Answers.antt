use Rattle.std.proofs.Common.{inr, sym, subst}
use Rattle.fd_descriptor.specs.HalfState.{HadHalf}
use Rattle.fd_descriptor.proofs.polling.TaskHalf+Reading+X+T+A.poll_accept.Goals as goal

pub returns-clause-polled : goal.returns-clause-polled
returns-clause-polled g c = inr (
  c.in-Ok.ensures.may,
  record {
    first = c.half.result.now;
    last = c.accept_now_in-answer.new.half;
    had = subst (λ h. HadHalf c.args.self.now.state h) (sym c.half.ensures.value) c.in-Ok.ensures.half;
    did = c.accept_now_in-answer.ensures.polled;
    has = c.rest.ensures.half;
  },
)
