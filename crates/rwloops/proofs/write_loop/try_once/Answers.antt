use Rattle.std.proofs.Common.{◌≡◌, ◌∙◌, length, map, ap}
use Rattle.rwloops.specs.WriteTrace.{count_of, chunk_after, write_outcome}
use Rattle.rwloops.proofs.PartialWriteLemmas.{offered_count}
use Rattle.rwloops.proofs.write_loop.try_once.Goals as goal

pub returns-clause-turn : goal.returns-clause-turn
returns-clause-turn g c = λ first earlier stands.
    let len = length c.args.bytes.now in
    let done : c.count.result ≡ count_of earlier = c.count.ensures ∙ stands.count in
    let fits = offered_count c.args.bytes.now c.count.result earlier c.offer-outcome.result done
    c.offer-outcome.ensures.within in
    record {
      made = record { offered = chunk_after c.args.bytes.now c.count.result; outcome = c.offer-outcome.result };
      told = c.offer-outcome.ensures.told first;
      offered = record { offered = ap (chunk_after c.args.bytes.now) done; count = c.offer-outcome.ensures.within };
      holds = c.feed.ensures.count len (map write_outcome earlier) stands fits;
      answer = c.feed.ensures.answer len (map write_outcome earlier) stands fits;
      stands = c.feed.ensures.stands len (map write_outcome earlier) stands fits;
    }
