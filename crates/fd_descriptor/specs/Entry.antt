-- The calls that come in by a reference or a lock, which a closed or draining descriptor refuses.
use Rattle.std.specs.Prelude.{◌≡◌, ◌⊎◌, true, Result, Err, IfErr}
use Rattle.rwloops.specs.declared.fault.Fault.{Fault}
use Rattle.rwloops.specs.declared.fault.Fault.TheVariants as fault
use Rattle.fd_descriptor.specs.declared.descriptor.FdHandle.{FdHandle}
use Rattle.fd_descriptor.specs.FdHandle.{KeepsHandle, HearsOn, marks_of, saw_closed, saw_draining}
use Rattle.fd_descriptor.specs.FdHandle.{closes_of, drains_of, UsesWriteHalf}
use Rattle.fd_descriptor.specs.HandleCalls.{Call, MayTell, IsLockFault, IsRefusedEntry, IsShut}
use Rattle.rwloops.specs.declared.outcome.DevKind.{DevKind}

-- what holds of each such call, whatever it does once it is in
pub record IsEntry {X A R W C T : Type 0} (call : Call) (before after : FdHandle X A R W C)
    (result : Result T Fault) : Type 0 where
  pub keeps : KeepsHandle before after
  -- it sets no flag
  pub no_close : closes_of after ≡ closes_of before
  pub no_drain : drains_of after ≡ drains_of before
  -- what its handle hears is one history
  pub heard : HearsOn before after
  -- how it is refused
  pub closed : saw_closed before ≡ true → result ≡ Err fault.Closed
  pub draining : saw_draining before ≡ true → IsRefusedEntry result
  pub allowed : IfErr result (MayTell call (marks_of before) (marks_of after))

-- the call got no lock, for this fault of the lock word, and tells it so; or it had its lock, and this
-- was done
abbrev pub GotNoLockOr : {X A R W C Y : Type 0} → (Fault → Y) → FdHandle X A R W C
    → FdHandle X A R W C → Y → Type 0 → Type 0
GotNoLockOr told before after result Done =
    ((why : Fault) × IsLockFault (marks_of before) (marks_of after) why × (result ≡ told why)) ⊎ Done

-- the call got no lock, which is told; or it had its lock, and then the write half that was at home was
-- shut, and told this
abbrev pub IsShutAtHome : {X A R W C : Type 0} → (W → Result (Unit {0}) DevKind → Type 0)
    → FdHandle X A R W C → FdHandle X A R W C → Result (Unit {0}) Fault → Type 0
IsShutAtHome told before after result =
    GotNoLockOr Err before after result
    (UsesWriteHalf before after (λ first last. IsShut (told last) result))
