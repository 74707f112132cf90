use Rattle.std.proofs.Common.{subst}
use Rattle.rwloops.specs.OutcomeTrace.{EachTry}
use Rattle.rwloops.specs.WriteTrace.{IsWriteTry}
use Rattle.rwloops.proofs.TraceLemmas.{try_among}
use Rattle.rwloops.proofs.PartialWriteLemmas.{each_write_offered, sum_within, taken_are_first, part_count}
use Rattle.rwloops.proofs.laws.written_bytes_are_the_first.Goals as goal

pub returns : goal.returns
returns c = record {
  sum = λ bytes tries calls result trace. sum_within bytes tries (each_write_offered bytes tries calls result trace);
  each = λ bytes tries newer older made calls result trace is.
      (try_among (IsWriteTry bytes) newer older made
      (subst (EachTry (IsWriteTry bytes)) is (each_write_offered bytes tries calls result trace))).count;
  taken = λ bytes tries calls result trace. taken_are_first bytes tries
      (each_write_offered bytes tries calls result trace);
  fault = λ bytes tries calls failed trace. (part_count bytes tries calls failed trace).0;
}
