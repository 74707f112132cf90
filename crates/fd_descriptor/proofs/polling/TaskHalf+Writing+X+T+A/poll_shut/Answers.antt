use Rattle.std.proofs.Common.{inr, sym, subst}
use Rattle.fd_descriptor.proofs.FaultLemmas.{if_some, if_none}
use Rattle.fd_descriptor.specs.HalfState.{HadHalf}
use Rattle.fd_descriptor.proofs.polling.TaskHalf+Writing+X+T+A.poll_shut.Goals as goal

pub returns-clause-shut : goal.returns-clause-shut
returns-clause-shut g c =
    if_some c.shut_now_in-answer.result _ _ (λ answer told. inr record {
      first = c.half.result.now;
      last = c.shut_now_in-answer.new.half;
      had = subst (λ h. HadHalf c.args.self.now.state h) (sym c.half.ensures.value) c.in-Ok.ensures.half;
      did = told;
      has = c.rest.ensures.half;
    }) c.shut_now_in-answer.ensures.told

pub returns-clause-connecting : goal.returns-clause-connecting
returns-clause-connecting g c =
    if_none c.shut_now_in-answer.result _ _ (λ told. record {
      first = c.half.result.now;
      last = c.shut_now_in-answer.new.half;
      had = subst (λ h. HadHalf c.args.self.now.state h) (sym c.half.ensures.value) c.in-Ok.ensures.half;
      did = told;
      has = c.rest.ensures.half;
    }) c.shut_now_in-answer.ensures.connecting
