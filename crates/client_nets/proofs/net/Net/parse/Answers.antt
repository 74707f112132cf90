use Rattle.client_nets.proofs.Nets.{with_slash, without_slash}
use Rattle.client_nets.proofs.net.Net.parse.Goals as goal

pub returns-in-Some-clause-spelled : goal.returns-in-Some-clause-spelled
returns-in-Some-clause-spelled c =
    with_slash c.args.text.now c.in-Some.parts.0.now c.in-Some.parts.1.now c.with_bits.result c.in-Some.ensures.parts
    c.with_bits.ensures.spelled

pub returns-in-None-clause-spelled : goal.returns-in-None-clause-spelled
returns-in-None-clause-spelled c = without_slash c.args.text.now c.alone.result c.in-None.ensures.none c.alone.ensures.spelled
