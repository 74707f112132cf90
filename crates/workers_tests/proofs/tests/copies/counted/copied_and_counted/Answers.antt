use Rattle.std.proofs.Common.{◌≡◌, ◌∙◌, sym, ap, ◌+◌, [], append-nil}
use Rattle.relay_core.specs.CopyTrace.{written}
use Rattle.workers_tests.proofs.tests.copies.counted.copied_and_counted.Goals as goal

-- from no call told before, the gate counts exactly the calls of the run
pub returns : goal.returns
returns g c =
    let run = c.copy_worker.ensures.copied in
    let counted = run.told [] c.requires in
    run.grew ∙ ap (λ n. c.args.share.now + n) (sym (counted ∙ ap written (append-nil run.calls)))
