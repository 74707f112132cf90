use Rattle.rwloops.proofs.accept_loop.try_once.Goals as goal

pub returns-clause-turn : goal.returns-clause-turn
returns-clause-turn g c = λ first earlier stands. record {
  made = c.try_accept-outcome.result;
  told = c.try_accept-outcome.ensures.told first;
  offered = tt;
  holds = tt;
  answer = c.feed.ensures.answer earlier stands;
  stands = c.feed.ensures.stands earlier stands;
}
