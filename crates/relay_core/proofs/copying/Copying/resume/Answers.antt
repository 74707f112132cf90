use Rattle.std.proofs.Common.{refl, arith}
use Rattle.relay_core.proofs.PassingLemmas.{no_call, within, passed_within, then_passing, then_passed}
use Rattle.relay_core.proofs.PassingLemmas.{stop_after, no_pause, open_at_stop, ended_at_stop, blocked_at_stop}
use Rattle.relay_core.proofs.PassingLemmas.{way_at_stop}
use Rattle.relay_core.proofs.copying.Copying.resume.Goals as goal

-- no turn so far
pub loop-turn-init : goal.loop-turn-init
loop-turn-init g c = no_call c.args.share.now (λ calls h. h)

-- one turn more
pub loop-turn-preserved : goal.loop-turn-preserved
loop-turn-preserved g c = then_passing c.loop-turn.invariant c.in-Ok.ensures.passing

-- a turn stopped the copy
pub returns-in-Err : goal.returns-in-Err
returns-in-Err g c =
    let before = c.loop-turn.invariant in
    let stop = stop_after refl (λ stays. within 0 8 (omega arith) (omega arith) (then_passing before stays))
    (λ ended over. passed_within 8 (omega arith) (then_passed before over)) c.in-Err.ensures.stopped in
    record {
      again = no_pause _ stop;
      waits = open_at_stop stop;
      blocked = blocked_at_stop stop;
      next = way_at_stop stop;
      ended = ended_at_stop stop;
    }
