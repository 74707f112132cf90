use Rattle.std.proofs.Common.{◌≡◌, ◌∙◌, sym, ap, ◌+◌, ◌∷◌, [], append-nil}
use Rattle.relay_core.specs.CopyTrace.{written}
use Rattle.core_tests.proofs.tests.tasks.counted.resumed_and_counted.Goals as goal

-- from no call told before, the gate counts exactly the calls of the run
pub returns-in-Ended : goal.returns-in-Ended
returns-in-Ended g c =
    let run = c.in-Ended.ensures.ended in
    let counted = run.told [] c.requires in
    run.grew ∙ ap (λ n. c.args.share.now + n) (sym (counted ∙ ap written (append-nil (run.last ∷ run.calls))))
