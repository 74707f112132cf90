use Rattle.std.proofs.Common.{Some, sym, subst}
use Rattle.rwloops.specs.declared.tries.Progress.{Progress}
use Rattle.net.specs.Polled.{IsPolledWrite}
use Rattle.net.proofs.polling.polled_write.Goals as goal

-- what the failed write answers, at the progress that it is
pub returns-in-Failed-clause-answer : goal.returns-in-Failed-clause-answer
returns-in-Failed-clause-answer c = λ none.
    let P : Progress → Type 0 =
    λ p. IsPolledWrite p c.args.offered (Some c.failed_write.result) c.failed_write.new.untold
    in subst P (sym c.in-Failed.is) (c.failed_write.ensures.answer none)
