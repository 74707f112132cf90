-- The grammar of a trace script: what a line says.
use Rattle.std.specs.Prelude.{◌≡◌, ◌≤◌, ◌+◌, ℕ, zero, suc, List, [], ◌∷◌, ◌++◌, ◌⊎◌, codes}
use Rattle.std.specs.Fmt.{decimal}
use Rattle.base_types.specs.declared.direction.Dir.TheVariants.{Read, Write}
use Rattle.lockword_core.specs.declared.stake.Op.{Op}
use Rattle.lockword_core.specs.declared.stake.Op.TheVariants as op
use Rattle.lockword_core.specs.declared.stake.Event.{Event}
use Rattle.lockword_script.specs.declared.script.TheConstants.{HOLDERS}

-- an operation's name in a script
abbrev pub operation_name : Op → List ℕ
operation_name op.Incref = codes "incref"
operation_name op.Decref = codes "decref"
operation_name (op.Lock Read) = codes "rlock"
operation_name (op.Lock Write) = codes "wlock"
operation_name (op.Unlock Read) = codes "runlock"
operation_name (op.Unlock Write) = codes "wunlock"
operation_name (op.Signal Read) = codes "rsignal"
operation_name (op.Signal Write) = codes "wsignal"
operation_name (op.Wake Read) = codes "rwake"
operation_name (op.Wake Write) = codes "wwake"
operation_name op.Close = codes "close"
operation_name op.Drain = codes "drain"
operation_name op.Destroy = codes "destroy"

-- the text names so many holders from the first on: a holder alone, or `first+count`
abbrev pub NamesHolders : List ℕ → ℕ → ℕ → Type 0
NamesHolders text first count =
    ((count ≡ 1) × (text ≡ decimal first)) ⊎ (text ≡ decimal first ++ (codes "+" ++ decimal count))

-- the line says that so many holders from the first on, one after the other, ask for the operation
pub record Says (line : List ℕ) (first count : ℕ) (asked : Op) : Type 0 where
  pub some : 1 ≤ count
  pub named : first + count ≤ HOLDERS
  pub holders : List ℕ
  pub names : NamesHolders holders first count
  pub text : line ≡ holders ++ (codes " " ++ operation_name asked)

-- the line is bad: it says nothing
abbrev pub IsBadLine : List ℕ → Type 0
IsBadLine line = (first count : ℕ) (asked : Op) → Says line first count asked → ⊥

-- the operation asked for by so many holders from the first on, in turn
abbrev pub events_of : ℕ → ℕ → Op → List Event
events_of first zero asked = []
events_of first (suc count) asked =
    record { holder = first; op = asked } ∷ events_of (first + 1) count asked
