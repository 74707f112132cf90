use Rattle.std.proofs.Common.{inl, inr}
use Rattle.descriptor_tests.proofs.TellingLemmas.{never_shut, of_fault, where_some, not_none}
use Rattle.descriptor_tests.proofs.tests.telling.polled_refused.Goals as goal

pub returns : goal.returns
returns g c =
    let run = c.poll_shut.ensures in
    record {
      refused = where_some _ _ (λ answer shut. elim shut [
        | inl kept ↦ of_fault answer kept.0 kept.2
        | inr used ↦ never_shut answer used.did
      ]) c.poll_shut.result run.shut;
      over = not_none _ (λ used. used.did) c.poll_shut.result run.connecting;
    }
