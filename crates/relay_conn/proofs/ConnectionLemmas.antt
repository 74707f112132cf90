-- What becomes of a connection as its ways begin.
use Rattle.std.proofs.Common.{◌≡◌, Option, Some, None, sym, subst}
use Rattle.std.specs.Prelude.{IsSome}
use Rattle.readiness.specs.declared.agenda.Why.{Why}
use Rattle.readiness.specs.declared.agenda.Why.TheVariants as why
use Rattle.relay_conn.specs.Connection.{given_up_at, IfDialing, IfRelaying, IfSeeking}
use Rattle.relay_conn.specs.Dialing.{Begins, Connects, KeepsDial, LetsGo, SeeksOn, WaysBegin}
use Rattle.relay_conn.specs.Heard.{IsTime}
use Rattle.relay_conn.specs.Others.{IsNoted}
use Rattle.relay_conn.specs.Relaying.{GoneOn}
use Rattle.relay_conn.specs.declared.connection.Phase.{Phase}
use Rattle.relay_conn.specs.declared.connection.Phase.TheVariants as phase
use Rattle.relay_conn.specs.declared.dialing.Dialing.{Dialing}
use Rattle.relay_conn.specs.declared.others.Dials.{Dials}
use Rattle.relay_conn.specs.declared.relaying.Relaying.{Relaying}
use Rattle.relay_core.specs.declared.pair_tasks.PairNext.{PairNext}
use Rattle.relay_core.specs.declared.pair_tasks.PairNext.TheVariants.{Again}
use Rattle.relay_facts.specs.declared.connection_facts.Acceptance.{Acceptance}

module _ {U D R : Type 0} where
  begun_in : (client : Acceptance) (new : Option (Phase U D R)) (dialing : Dialing U D R) (fresh : Relaying U D R) (next : PairNext)
      → Begins client dialing fresh → IfRelaying new (λ relaying. GoneOn fresh relaying why.Again next)
      → IfRelaying new (λ relaying. WaysBegin client dialing relaying next)
  begun_in client None dialing fresh next begins gone = tt
  begun_in client (Some (phase.Dialing d)) dialing fresh next begins gone = tt
  begun_in client (Some (phase.Seeking s)) dialing fresh next begins gone = tt
  begun_in client (Some (phase.Relaying r)) dialing fresh next begins gone = record {
    fresh = fresh;
    begins = begins;
    gone_on = gone;
  }

  -- the ways of what was dialled have begun
  pub begun : (client : Acceptance) (old new : Option (Phase U D R)) (dialing : Dialing U D R) (fresh : Relaying U D R) (next : PairNext)
      → old ≡ Some (phase.Dialing dialing) → Begins client dialing fresh
      → IfRelaying new (λ relaying. GoneOn fresh relaying why.Again next)
      → IfDialing old (λ d. IfRelaying new (λ relaying. WaysBegin client d relaying next))
  begun client old new dialing fresh next is begins gone =
      subst (λ p. IfDialing p (λ d. IfRelaying new (λ relaying. WaysBegin client d relaying next))) (sym is)
      (begun_in client new dialing fresh next begins gone)

  connected_in : (client : Acceptance) (new : Option (Phase U D R)) (old mid : Dialing U D R) (why : Why) (next : PairNext)
      → KeepsDial old mid why → IfRelaying new (λ relaying. WaysBegin client mid relaying next)
      → IfRelaying new (λ relaying. Connects client old relaying why next)
  connected_in client None old mid why next kept begins = tt
  connected_in client (Some (phase.Dialing d)) old mid why next kept begins = tt
  connected_in client (Some (phase.Seeking s)) old mid why next kept begins = tt
  connected_in client (Some (phase.Relaying r)) old mid why next kept begins = record {
    dialing = mid;
    kept = kept;
    begun = begins;
  }

  -- they have begun by what the dial was told
  pub connected : (client : Acceptance) (before new : Option (Phase U D R)) (old mid : Dialing U D R) (why : Why) (next : PairNext)
      → before ≡ Some (phase.Dialing old) → KeepsDial old mid why
      → IfRelaying new (λ relaying. WaysBegin client mid relaying next)
      → IfDialing before (λ d. IfRelaying new (λ relaying. Connects client d relaying why next))
  connected client before new old mid why next is kept begins =
      subst (λ p. IfDialing p (λ d. IfRelaying new (λ relaying. Connects client d relaying why next))) (sym is)
      (connected_in client new old mid why next kept begins)

  sought_in : (new : Option (Phase U D R)) (old mid : Dialing U D R) (before after : Dials R) (why : Why) (next : PairNext)
      → KeepsDial old mid why → IsSome mid.failure → (IsTime why (given_up_at old) → ⊥)
      → IsNoted old.others before after → next ≡ Again → IfSeeking new (λ seeking. LetsGo mid seeking)
      → IfSeeking new (λ seeking. SeeksOn old seeking before after why next)
  sought_in None old mid before after why next kept failed early noted again let_go = tt
  sought_in (Some (phase.Dialing d)) old mid before after why next kept failed early noted again let_go = tt
  sought_in (Some (phase.Relaying r)) old mid before after why next kept failed early noted again let_go = tt
  sought_in (Some (phase.Seeking s)) old mid before after why next kept failed early noted again let_go = record {
    dialing = mid;
    kept = kept;
    let_go = let_go;
    failed = subst IsSome (sym let_go.last) failed;
    early = early;
    noted = noted;
    gives_way = again;
  }

  -- what was dialled was let go, by what its loop heard
  pub sought : (was new : Option (Phase U D R)) (old mid : Dialing U D R) (before after : Dials R) (why : Why)
      (next : PairNext) → was ≡ Some (phase.Dialing old) → KeepsDial old mid why → IsSome mid.failure
      → (IsTime why (given_up_at old) → ⊥) → IsNoted old.others before after → next ≡ Again
      → IfSeeking new (λ seeking. LetsGo mid seeking)
      → IfDialing was (λ d. IfSeeking new (λ seeking. SeeksOn d seeking before after why next))
  sought was new old mid before after why next is kept failed early noted again let_go =
      subst (λ p. IfDialing p (λ d. IfSeeking new (λ seeking. SeeksOn d seeking before after why next))) (sym is)
      (sought_in new old mid before after why next kept failed early noted again let_go)
