use Rattle.relay_admin.proofs.admin.OrderLemmas.{word_ends, word_found, word_on}
use Rattle.relay_admin.proofs.admin.target_order.room_word.Goals as goal

pub returns-then-room-at-eq0 : goal.returns-then-room-at-eq0
returns-then-room-at-eq0 c = word_found c.args.room.now c.loop-at.at c.loop-at-test.true c.if-room-at-eq0.true c.loop-at.invariant

pub loop-at-preserved : goal.loop-at-preserved
loop-at-preserved c = word_on c.args.room.now c.loop-at.at c.loop-at-test.true c.if-room-at-eq0.false c.loop-at.invariant

pub returns : goal.returns
returns c = word_ends c.args.room.now c.loop-at.at c.loop-at-test.false c.loop-at.invariant
