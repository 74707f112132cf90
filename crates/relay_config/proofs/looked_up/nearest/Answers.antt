use Rattle.std.proofs.Common.{◌<◌, ◌≡◌, ◌≤◌, arith, length}
use Rattle.relay_config.specs.declared.looked_up.TheConstants.{MAX_NEAR_BYTES}
use Rattle.relay_config.proofs.Nearest.{found_all, found_farther, found_nearer}
use Rattle.relay_config.proofs.looked_up.nearest.Goals as goal
use Rattle.relay_config.proofs.looked_up.nearest.Goals.{then-edits-least, else-edits-least}

pub loop-key-preserved : goal.loop-key-preserved
loop-key-preserved c =
    let known = c.args.known.now in
    let within : c.loop-key.key-index < length known = omega arith in
    elim c.if-edits-least.branch [
      | then-edits-least w ↦
          found_nearer known c.loop-key.key-index c.args.word.now c.word.result.now _ c.in_ok-edits.edits within c.word.ensures c.in_ok-edits.ensures.value
          c.loop-key.best c.if-edits-least.best c.loop-key.least c.if-edits-least.least w.if-edits-least.true w.best-is w.least-is c.loop-key.invariant
      | else-edits-least w ↦
          found_farther known c.loop-key.key-index c.args.word.now c.word.result.now _ c.in_ok-edits.edits within c.word.ensures c.in_ok-edits.ensures.value
          c.loop-key.best c.if-edits-least.best c.loop-key.least c.if-edits-least.least w.if-edits-least.false w.best-is w.least-is c.loop-key.invariant
    ]

pub returns : goal.returns
returns c =
    let all : c.loop-key.key-index ≡ length c.args.known.now = omega arith in
    let short : length c.args.word.now ≤ MAX_NEAR_BYTES = omega arith in
    found_all c.args.known.now c.loop-key.key-index c.args.word.now c.loop-key.best c.loop-key.least all short c.loop-key.invariant
