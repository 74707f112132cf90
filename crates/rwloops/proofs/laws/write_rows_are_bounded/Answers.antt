use Rattle.std.proofs.Common.{◌&&◌, nat_lt}
use Rattle.std.specs.List.{list_all}
use Rattle.std.proofs.lemmas.Bool.{and_parts}
use Rattle.std.proofs.lemmas.List.Sums.{AllPass-from_list_all, list_all-from_AllPass}
use Rattle.rwloops.specs.RetryBound.{has_short_rows}
use Rattle.rwloops.specs.Outcome.{is_interrupted, sum_of_counts}
use Rattle.rwloops.specs.WriteTrace.{write_goes_on}
use Rattle.rwloops.proofs.RetryLemmas.{both, short_rows, short_rows_by_cuts}
use Rattle.rwloops.proofs.PartialWriteLemmas.{sum_below, below_test}
use Rattle.rwloops.proofs.laws.write_rows_are_bounded.Goals as goal

pub returns : goal.returns
returns c = λ len outcomes. (
  λ undecided.
      let parts = and_parts (list_all write_goes_on outcomes)
      (nat_lt (sum_of_counts outcomes) len && has_short_rows is_interrupted outcomes) undecided in
      let rows = and_parts (nat_lt (sum_of_counts outcomes) len) (has_short_rows is_interrupted outcomes) parts.1 in (
        AllPass-from_list_all write_goes_on outcomes parts.0,
        sum_below len outcomes undecided,
        short_rows is_interrupted outcomes rows.1,
      ),
  λ facts. both _ _ (list_all-from_AllPass write_goes_on outcomes facts.0)
      (both _ _ (below_test (sum_of_counts outcomes) len facts.1) (short_rows_by_cuts is_interrupted outcomes facts.2)),
)
