use Rattle.std.proofs.Common.{◌∷◌, ◌++◌, subst}
use Rattle.rwloops.specs.OutcomeTrace.{EachTry}
use Rattle.rwloops.specs.WriteTrace.{IsWriteTry, count_of}
use Rattle.rwloops.proofs.TraceLemmas.{try_among}
use Rattle.rwloops.proofs.PartialWriteLemmas.{each_write_offered, later_begins_after}
use Rattle.rwloops.proofs.laws.no_written_byte_is_offered_again.Goals as goal

pub returns : goal.returns
returns c = λ bytes tries newer between older later made calls result trace is. (
  count_of (between ++ (made ∷ older)),
  later_begins_after between older made,
  (try_among (IsWriteTry bytes) newer (between ++ (made ∷ older)) later
      (subst (EachTry (IsWriteTry bytes)) is (each_write_offered bytes tries calls result trace))).offered,
)
