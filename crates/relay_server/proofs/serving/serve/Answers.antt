use Rattle.std.proofs.Common.{◌≡◌, arith}
use Rattle.relay_server.specs.Server.{started_in}
use Rattle.relay_server.proofs.JoinLemmas.{sums_of_all}
use Rattle.relay_server.proofs.OutputLemmas.{both_lines}
use Rattle.relay_server.proofs.serving.serve.Goals as goal

-- each loop that there was to be was started, and joined at the end
pub returns-clause-written : goal.returns-clause-written
returns-clause-written g c =
    let opened = c.in_ok-server.ensures.loops in
    let given = c.give.ensures.loops in
    let ran = c.in_ok-ran.ensures.started in
    let each : started_in c.run-ran.new.server ≡ c.args.config.capacity.loops.count
    = omega (arith, opened.0, opened.1, given.0, given.1, ran) in
    both_lines _ _ _ _ c.in_ok-totals.totals c.write_totals.result
    (sums_of_all c.in_ok-totals.totals _ _ c.in_ok-totals.ensures.sums each)
    c.in_ok-ran.ensures.said c.write_totals.ensures.said
