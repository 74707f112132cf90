use Rattle.std.proofs.Common.{◌≡◌, ◌∙◌}
use Rattle.lockword.proofs.Words.{rules, arith, ap, true, allows}
use Rattle.lockword.specs.Steps.{op_at}
use Rattle.lockword.proofs.WakeupSteps.{counts, signals, changes_one}
use Rattle.lockword.proofs.holders.LockWord.try_change.Goals as goal

pub load-found-requires : goal.load-found-requires
load-found-requires g c =
    let words = c.args.self.now.words in
    let small = c.semaphore-word.ensures.is_word in
    (search rules, omega arith, counts _ _ c.args.dir _ _ _ _ c.semaphore-word.ensures.value)

pub compare_exchange-requires : goal.compare_exchange-requires
compare_exchange-requires g c =
    let words = c.args.self.now.words in
    let small = c.semaphore-word.ensures.is_word in
    let told = c.load-found.ensures.2 in
    let may : allows c.load-found.new.seat.me.0.stake (op_at g.M.SignalStep.way c.args.dir) ≡ true =
    ap (λ me. allows me.0.stake (op_at g.M.SignalStep.way c.args.dir)) told.1 ∙ c.requires.allowed in
    let one = changes_one _ c.args.dir _ _ _ may c.in-Some.ensures in (
      search rules,
      omega arith,
      signals _ _ c.args.dir _ _ _ _ _ _ (op_at g.M.SignalStep.way) _ c.semaphore-word.ensures.value one,
    )
