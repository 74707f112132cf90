use Rattle.relay_core.proofs.AcceptTraceLemmas.{no_accept, run_goes_on, run_pauses, run_ends}
use Rattle.relay_core.proofs.laws.accepts_join.Goals as goal

pub returns : goal.returns
returns g c = record {
  begins = λ first. no_accept;
  goes_on = λ first second third old new least most so turn. run_goes_on so turn;
  pauses = λ first second third fourth old new most ms so turn paused. run_pauses so turn paused;
  ends = λ first second third old most ended so turn. run_ends so turn;
}
