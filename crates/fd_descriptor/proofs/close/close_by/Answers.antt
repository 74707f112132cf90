use Rattle.std.proofs.Common.{rules}
use Rattle.lockword.proofs.HeardSteps.{goes_on_on}
use Rattle.fd_descriptor.proofs.HalfLemmas.{left_hearing}
use Rattle.fd_descriptor.proofs.close.close_by.Goals as goal

pub returns-in-Ok-told-clause-heard : goal.returns-in-Ok-told-clause-heard
returns-in-Ok-told-clause-heard g c =
    search (
      rules,
      goes_on_on _ _ _ c.in-Ok.ensures.heard
          (left_hearing c.in-Ok.closing.place c.drop_closing.result _ c.drop_closing.ensures.heard c.end_close-left.ensures.heard),
    )

pub returns-in-Err-told-clause-heard : goal.returns-in-Err-told-clause-heard
returns-in-Err-told-clause-heard g c =
    search (
      rules,
      goes_on_on _ _ _ c.in-Ok.ensures.heard
          (left_hearing c.in-Ok.closing.place c.drop_closing.result _ c.drop_closing.ensures.heard c.end_close-left.ensures.heard),
    )
