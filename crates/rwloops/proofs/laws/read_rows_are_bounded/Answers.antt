use Rattle.std.specs.List.{list_all}
use Rattle.std.proofs.lemmas.Bool.{and_parts}
use Rattle.std.proofs.lemmas.List.Sums.{AllPass-from_list_all, list_all-from_AllPass}
use Rattle.rwloops.specs.RetryBound.{has_short_rows}
use Rattle.rwloops.specs.Outcome.{is_interrupted}
use Rattle.rwloops.specs.ReadTrace.{read_goes_on}
use Rattle.rwloops.proofs.RetryLemmas.{both, short_rows, short_rows_by_cuts}
use Rattle.rwloops.proofs.laws.read_rows_are_bounded.Goals as goal

pub returns : goal.returns
returns c = λ outcomes. (
  λ undecided. let parts = and_parts (list_all read_goes_on outcomes)
      (has_short_rows is_interrupted outcomes) undecided in
      (AllPass-from_list_all read_goes_on outcomes parts.0, short_rows is_interrupted outcomes parts.1),
  λ facts. both _ _ (list_all-from_AllPass read_goes_on outcomes facts.0)
      (short_rows_by_cuts is_interrupted outcomes facts.1),
)
