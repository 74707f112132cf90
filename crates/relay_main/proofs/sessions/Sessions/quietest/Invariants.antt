use Rattle.std.specs.Prelude.{IfSome, IfNone}
use Rattle.relay_main.specs.Sessions.{IsQuietestOf, NoneMayLeave}
use Rattle.relay_main.proofs.sessions.Sessions.quietest.Given as goal

abbrev pub invariant-loop-place : goal.invariant-loop-place
invariant-loop-place l = record {
  some : IfSome l.found (λ found.
      IsQuietestOf l.self.places.items l.place found.0 found.1.now);
  none : IfNone l.found (NoneMayLeave l.self.places.items l.place);
}
