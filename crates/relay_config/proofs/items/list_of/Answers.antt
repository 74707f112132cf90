use Rattle.std.proofs.Common.{◌≤◌, ◌<◌, sym, arith, length}
use Rattle.relay_config.proofs.Lists.{list_long, list_short}
use Rattle.relay_config.proofs.items.list_of.Goals as goal

pub returns-in-Some : goal.returns-in-Some
returns-in-Some c =
    let vs = c.in-Some.items.now.items in
    let short : length vs ≤ c.args.most = omega arith in
    list_short c.args.most c.args.spot _ vs (sym c.in-Some.ensures) short

pub returns-in-Some-2 : goal.returns-in-Some-2
returns-in-Some-2 c =
    let vs = c.in-Some.items.now.items in
    let long : c.args.most < length vs = omega arith in
    list_long c.args.most c.args.spot _ vs (sym c.in-Some.ensures) long
