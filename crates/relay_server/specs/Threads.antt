-- What the loops' threads told as they ended.
use Rattle.std.specs.Prelude.{
  ◌≡◌,
  ◌↔◌,
  ℕ,
  ◌+◌,
  ◌-◌,
  ◌^◌,
  min,
  true,
  List,
  All,
  length,
  Option,
  Some,
  None,
  Result,
  Ok,
  Err,
  IsOk,
}
use Rattle.std.specs.List.{fold}
use Rattle.std.specs.Option.{option_map}
use Rattle.relay_admin.specs.declared.serve_fault.ServeFault.{ServeFault}
use Rattle.relay_facts.specs.declared.totals.Totals.{Totals}
use Rattle.relay_server.specs.declared.threads.Joined.{Joined}

-- the bytes to the targets and to the clients, where totals are told
abbrev pub told_by : Option Totals → Option (ℕ × ℕ)
told_by totals = option_map (λ told. (told.up.bytes, told.down.bytes)) totals

-- the sum of two totals, as far as a number of 64 bits tells it
abbrev pub capped : ℕ → ℕ → ℕ
capped all one = min (all + one) (2 ^ 64 - 1)

-- what all loops told with one more, which has ended so; a share that is missing is missing of all
abbrev pub told_with : Result (Option Totals) ServeFault → Option (ℕ × ℕ) → Option (ℕ × ℕ)
told_with (Err fault) all = all
told_with (Ok None) all = None
told_with (Ok (Some one)) all =
    option_map (λ told. (capped told.0 one.up.bytes, capped told.1 one.down.bytes)) all

-- how a loop's thread ends: with the totals of its books, without them, or since its poller failed
abbrev pub LoopEnd : Type 0
LoopEnd = Result (Option Totals) ServeFault

-- what all loops told whose threads ended so
abbrev pub told_by_all : List LoopEnd → Option (ℕ × ℕ)
told_by_all ends = fold (λ all one. told_with one all) (Some (0, 0)) ends

-- what a join has come to, of threads that ended so
pub record IsJoinOf (joined : Joined) (ends : List LoopEnd) : Type 0 where
  pub turned : (joined.turned ≡ true) ↔ All (λ one. IsOk one) ends
  pub totals : told_by joined.totals ≡ told_by_all ends

-- the totals are the sums of what so many loops told, none of which has failed
pub record AreSumsOf (totals : Totals) (loops : ℕ) : Type 0 where
  pub ends : List LoopEnd
  pub each : length ends ≡ loops
  pub turned : All (λ one. IsOk one) ends
  pub sums : told_by (Some totals) ≡ told_by_all ends
