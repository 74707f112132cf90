use Rattle.lockword_script.proofs.ScriptLemmas.{names_one, names_range}
use Rattle.lockword_script.proofs.script.holders_named.Goals as goal

pub returns-in-None-parse_decimal-clause-none : goal.returns-in-None-parse_decimal-clause-none
returns-in-None-parse_decimal-clause-none c first count p q names =
    let one = names_one c.args.text.now first count c.in-None.ensures.none names in
    c.in-None-parse_decimal.ensures.refused first p one.1

pub returns-in_default-clause-none : goal.returns-in_default-clause-none
returns-in_default-clause-none c first count p q names =
    let two =
    names_range c.args.text.now c.in-Some.first.now c.in-Some.count.now first count p c.in-Some.ensures.first
    c.in-Some.ensures.parts names in
    c.in_default.ensures.refused first p two.0

pub returns-in_default-parse_decimal-clause-none : goal.returns-in_default-parse_decimal-clause-none
returns-in_default-parse_decimal-clause-none c first count p q names =
    let two =
    names_range c.args.text.now c.in-Some.first.now c.in-Some.count.now first count p c.in-Some.ensures.first
    c.in-Some.ensures.parts names in
    c.in_default-parse_decimal.ensures.refused count q two.1
