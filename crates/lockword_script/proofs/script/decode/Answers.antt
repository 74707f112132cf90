use Rattle.std.proofs.Common.{arith}
use Rattle.lockword_script.proofs.ScriptLemmas.{says_by_parts, says_with_space, bad_of_none, bad_of_far}
use Rattle.lockword_script.proofs.script.decode.Goals as goal

-- there is no space
pub returns-in_default-clause-none : goal.returns-in_default-clause-none
returns-in_default-clause-none c first count asked says =
    says_with_space c.args.line.now first count asked c.in_default.ensures.none says

-- the name is no operation's
pub returns-in_default-operation_named-clause-none : goal.returns-in_default-operation_named-clause-none
returns-in_default-operation_named-clause-none c first count asked says =
    let cut = c.in-Some.ensures in
    let parts =
    says_by_parts c.args.line.now c.in-Some.holders.now c.in-Some.name.now first count asked cut.first cut.parts says in
    c.in_default-operation_named.ensures.none asked parts.named

-- no holders are named
pub returns-in_default-holders_named-clause-none : goal.returns-in_default-holders_named-clause-none
returns-in_default-holders_named-clause-none c first count asked says =
    let cut = c.in-Some.ensures in
    let parts =
    says_by_parts c.args.line.now c.in-Some.holders.now c.in-Some.name.now first count asked cut.first cut.parts says in
    c.in_default-holders_named.ensures.none first count parts.first_fits parts.count_fits parts.names

-- there are none of them
pub returns-then-count-eq0-clause-none : goal.returns-then-count-eq0-clause-none
returns-then-count-eq0-clause-none c =
    let cut = c.in-Some.ensures in
    bad_of_none c.args.line.now c.in-Some.holders.now c.in-Some.name.now c.in-Some-holders_named.first
    c.in-Some-holders_named.count cut.first cut.parts c.in-Some-holders_named.ensures.fit.0
    c.in-Some-holders_named.ensures.fit.1 c.in-Some-holders_named.ensures.some c.if-count-eq0.true

-- the first can't be named
pub returns-then-first-ge-HOLDERS-clause-none : goal.returns-then-first-ge-HOLDERS-clause-none
returns-then-first-ge-HOLDERS-clause-none c =
    let cut = c.in-Some.ensures in
    bad_of_far c.args.line.now c.in-Some.holders.now c.in-Some.name.now c.in-Some-holders_named.first
    c.in-Some-holders_named.count cut.first cut.parts c.in-Some-holders_named.ensures.fit.0
    c.in-Some-holders_named.ensures.fit.1 c.in-Some-holders_named.ensures.some (omega arith)

-- the last can't be named
pub returns-then-count-first-clause-none : goal.returns-then-count-first-clause-none
returns-then-count-first-clause-none c =
    let cut = c.in-Some.ensures in
    bad_of_far c.args.line.now c.in-Some.holders.now c.in-Some.name.now c.in-Some-holders_named.first
    c.in-Some-holders_named.count cut.first cut.parts c.in-Some-holders_named.ensures.fit.0
    c.in-Some-holders_named.ensures.fit.1 c.in-Some-holders_named.ensures.some (omega arith)
