use Rattle.std.proofs.Common.{refl, arith}
use Rattle.std.proofs.lemmas.Option.{slice_get_read}
use Rattle.relay_facts.proofs.FiguresLemmas.{weighs}
use Rattle.relay_facts.proofs.target_list.Targets.has_one_up.Goals as goal

pub returns-then-gets_clients : goal.returns-then-gets_clients
returns-then-gets_clients c = λ _.
    let all = c.args.self.now.all.items in let test = c.loop-place-test.true in let len = c.len-place-end.ensures in
    weighs all c.loop-place.place c.index.result.now
    (slice_get_read all _ c.loop-place.place c.index.result.now refl (omega (arith, test, len)) c.index.ensures)
    (c.gets_clients.ensures c.if-gets_clients.true)
