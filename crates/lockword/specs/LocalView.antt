-- What a seat knows, and what is counted over all seats.
use Rattle.std.specs.Prelude.{[], map, sum_by, count_by, if◌then◌else◌}
use Rattle.lockword.specs.Words.{ℕ, Bool, false, List, Stake, Op}
use Rattle.lockword_core.specs.declared.stake.Stake.TheVariants as stake
use Rattle.lockword_core.specs.LockState.{lasts, part}
use Rattle.lockword.specs.declared.local_view.LocalView.{LocalView}

-- the first seat has nothing, and has seen nothing
abbrev pub newcomer : LocalView
newcomer =
    record {
      stake = stake.Free;
      took = false;
      saw = record { closed = false; draining = false; done = false };
      did = [];
      heard = [];
    }

-- a seat that has nothing, and has seen what another has
abbrev pub without_stake : LocalView → LocalView
without_stake v = record { stake = stake.Free; took = false; saw = v.saw; did = []; heard = v.heard }

-- the stakes of all seats
abbrev pub stakes_of : List LocalView → List Stake
stakes_of views = map (λ v. v.stake) views

-- what each seat did
abbrev pub deeds_of : List LocalView → List (List Op)
deeds_of views = map (λ v. v.did) views

-- how many operations of a sort all seats together have made
abbrev pub made_by_seats : List LocalView → (Op → Bool) → ℕ
made_by_seats views what = sum_by (count_by what) (deeds_of views)

-- 1 for a `Last` that has taken the halves
abbrev pub taken_by : LocalView → ℕ
taken_by v = if v.took then part lasts v.stake else 0

-- the number of `Last`s that have taken the halves
unfoldable pub takers : List LocalView → ℕ
takers views = sum_by taken_by views
