-- What becomes of a connection that goes on.
use Rattle.std.specs.Prelude.{ℕ}
use Rattle.std.specs.Arc.{arc_value}
use Rattle.readiness.specs.declared.agenda.Why.{Why}
use Rattle.relay_conn.specs.Asked.{KeepsConnection}
use Rattle.relay_conn.specs.Connection.{IfDialing, IfRelaying, IfSeeking, IsDialing, IsRelaying, IsSeeking}
use Rattle.relay_conn.specs.Dialing.{Connects, DialsNext, DialsOn, KeepsSeeking, SeeksOn}
use Rattle.relay_conn.specs.Relaying.{GoneOn}
use Rattle.relay_conn.specs.declared.connection.Connection.{Connection}
use Rattle.relay_conn.specs.declared.others.Dials.{Dials}
use Rattle.relay_conn.specs.declared.seeking.NextTarget.{NextTarget}
use Rattle.relay_core.specs.declared.pair_tasks.PairNext.{PairNext}

module _ {U D R : Type 0} where
  -- it went on by what its loop heard, in its phase or into the next, and this follows
  pub record ConnectionGoneOn (old new : Connection U D R) (before after : Dials R) (why : Why)
      (next : PairNext) : Type 0 where
    pub kept : KeepsConnection old new
    pub stays : IsRelaying old.phase → IsRelaying new.phase
    pub relays : IfRelaying old.phase (λ before. IfRelaying new.phase (λ after.
        GoneOn before after why next))
    pub dials : IfDialing old.phase (λ before. IfDialing new.phase (λ after.
        DialsOn before after why next))
    pub connects : IfDialing old.phase (λ before. IfRelaying new.phase (λ after.
        Connects (arc_value old.facts).acceptance before after why next))
    pub seeks : IfDialing old.phase (λ dialed. IfSeeking new.phase (λ seeks.
        SeeksOn dialed seeks before after why next))
    pub seeks_on : IfSeeking old.phase (λ sought. IfSeeking new.phase (λ seeks.
        KeepsSeeking sought seeks why))
    pub sought : IfSeeking old.phase (λ sought. IsSeeking new.phase)

  -- one that sought a target dials this one now
  abbrev pub ConnectionDials : Connection U D R → Connection U D R → NextTarget R → ℕ → Type 0
  ConnectionDials old new next now = (IsSeeking old.phase → IsDialing new.phase)
      × IfSeeking old.phase (λ sought. IfDialing new.phase (λ dials. DialsNext sought dials next now))
