use Rattle.std.proofs.Common.{refl}
use Rattle.relay_main.proofs.SeatLemmas.{is_one_of, taken_anew}
use Rattle.relay_main.proofs.sessions.Sessions.begin.Goals as goal

-- the place that was made has the session
pub returns-clause-begun : goal.returns-clause-begun
returns-clause-begun g c =
    let old = c.args.self.now.places.items in
    let free = c.make_room.new.self.places.items in (
      c.in_ok-place.place,
      c.in_ok-seated.seated,
      is_one_of old free c.in_ok-place.place c.in_ok-place.ensures.seat c.in_ok-place.ensures.free,
      taken_anew old free _ c.in_ok-place.place c.in_ok-seated.seated c.in_ok-place.ensures.seat refl,
      c.in_ok-seated.ensures.named,
    )
