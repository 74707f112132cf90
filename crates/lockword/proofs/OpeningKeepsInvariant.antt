-- A new word meets the rule.
use Rattle.std.proofs.Common.{◌≡◌, ◌+◌, [], ◌∷◌, ◌++◌}
use Rattle.lockword.proofs.Words.{ℕ, false, zero, suc, refl, sym, subst, arith, some, get_elem?, Read, Write, Census}
use Rattle.lockword.proofs.Words.{references, locks, lasts, IsBalanced, LocalView, newcomer, SawRightly, IsReached}
use mathlib.Core.Option.{some-injective, some-ne-none}
use Rattle.atomic_table.specs.Table.{opening}
use Rattle.lockword_core.specs.declared.stake.Stake.TheVariants as stake
use Rattle.lockword_core.specs.LockState.{queued, owed, closers, drainers, count}
use Rattle.lockword_core.proofs.CountLemmas.{count-nil, count-push}
use Rattle.lockword.specs.declared.shared_rule.Half.TheVariants as half
use Rattle.lockword.specs.LocalView.{takers}
use Rattle.lockword.proofs.ViewLemmas.{takers-nil, takers-push}
use Rattle.lockword.proofs.Representation.{both, represents}
use Rattle.lockword.proofs.HistoryEnds.{first_history, first_deeds}
use Rattle.lockword.proofs.HeardSteps.{first_heard}

none_counted : (what : Rattle.lockword_core.specs.LockState.Counted) → count what (stake.Free ∷ []) ≡ 0
none_counted what =
    let pushed : count what ([] ++ stake.Free ∷ []) ≡ count what [] = count-push what [] in
    omega (arith, count-nil what)

none_took : takers (newcomer ∷ []) ≡ 0
none_took =
    let pushed : takers ([] ++ newcomer ∷ []) ≡ takers [] + 0 = takers-push [] newcomer in omega (arith, takers-nil)

saw_nothing : (i : ℕ) (v : LocalView) → get_elem? (newcomer ∷ []) i ≡ some v → newcomer ≡ v
saw_nothing zero v at = some-injective newcomer v at
saw_nothing (suc i) v at = absurd (some-ne-none v (sym at))

-- the abstract state of one seat that has nothing
abbrev first_census : Census
first_census =
    record {
      stakes = stake.Free ∷ [];
      closed = false;
      draining = false;
      signals = record { read = 0; write = 0 };
      destroyed = false;
    }

starts : IsBalanced first_census 0
starts =
    omega (
      arith,
      none_counted references,
      none_counted (locks Read),
      none_counted (locks Write),
      none_counted (queued Read),
      none_counted (queued Write),
      none_counted (owed Read),
      none_counted (owed Write),
      none_counted closers,
      none_counted drainers,
      none_counted lasts,
    )

module _ (R W : Type 0) where
  pub begins : (r : R) (w : W) → IsReached (opening (0 ∷ 0 ∷ 0 ∷ 0 ∷ []) (half.Read r ∷ half.Write w ∷ []) newcomer)
  begins r w =
      record {
        represents = represents (0 ∷ 0 ∷ 0 ∷ 0 ∷ []) (some (half.Read r) ∷ some (half.Write w) ∷ [])
            (newcomer ∷ []) first_census 0
            record {
              wide = refl;
              deep = refl;
              state = refl;
              semaphores = both _ refl refl;
              done = refl;
              stakes = refl;
              balance = starts;
              halves = both _ (omega (arith, none_counted (locks Read), none_took))
                  (omega (arith, none_counted (locks Write), none_took));
              seen = λ i v at. subst (λ (y : LocalView). SawRightly first_census y)
                  (saw_nothing i v at) record { closed = λ e. e; draining = λ e. e; done = λ e. e };
            };
        history = [];
        interleaves = first_deeds;
        none_refused = refl;
        leads = first_history;
        heard = first_heard;
      }
