use Rattle.relay_main.proofs.SeatLemmas.{free_as_before, free_then}
use Rattle.relay_main.proofs.sessions.Sessions.make_room.Goals as goal

-- a place was free
pub returns-in-Some-clause-seat : goal.returns-in-Some-clause-seat
returns-in-Some-clause-seat g c = free_as_before c.args.self.now.places.items c.in-Some.place c.in-Some.ensures.free

-- the quietest gave its place up
pub returns-clause-free : goal.returns-clause-free
returns-clause-free g c =
    rw c.end.ensures.seat (free_then c.args.self.now.places.items c.in_ok-place.place _ c.in_ok-place.ensures.longest.leaves.0)
