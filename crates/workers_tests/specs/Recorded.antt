-- What stubs keep of their calls, oldest first, as their traits tell it.
use Rattle.std.specs.Prelude.{ℕ, Bool, true, false, List, map, reverse, Option, Some, None, Result, Ok, Err}
use Rattle.rwloops.specs.declared.fault.Fault.{Fault}
use Rattle.relay_admin.specs.declared.admin.command.Command.TheVariants.{Totals}
use Rattle.relay_admin.specs.admin.Reply.{Exchange, asked_for, looked_at, totals, side}
use Rattle.relay_core.specs.AcceptTrace.{AcceptCall, Accepted, Delivered, Paused}

-- a pause, the delivery of what was taken, or an answer of an accept
abbrev pub accept_call_of : {T : Type 0} → Option ℕ → Bool → Result T Fault → AcceptCall T
accept_call_of (Some ms) delivers answer = Paused ms
accept_call_of None true (Ok taken) = Delivered taken
accept_call_of None true (Err fault) = Accepted (Err fault)
accept_call_of None false answer = Accepted answer

-- calls of an accept, newest first: the pause, if it is one, whether it is a delivery, and the answer, or
-- what was delivered
abbrev pub accept_calls_of : {T : Type 0} → List (Option ℕ × Bool × Result T Fault) → List (AcceptCall T)
accept_calls_of kept = map (λ done. accept_call_of done.0 done.1 done.2) (reverse kept)

-- a look at this id, where nothing stood; or the question for the totals, and so many bytes up
abbrev pub exchange_of : Bool → ℕ → Exchange
exchange_of true id = looked_at (side id) None
exchange_of false up = asked_for Totals (totals up 0)

-- exchanges, oldest first: whether each is a look, and its number
abbrev pub exchanges_of : List (Bool × ℕ) → List Exchange
exchanges_of kept = map (λ one. exchange_of one.0 one.1) kept

-- they are told where they are all
abbrev pub told_where : Bool → List (Bool × ℕ) → Option (List Exchange)
told_where true kept = Some (exchanges_of kept)
told_where false kept = None
