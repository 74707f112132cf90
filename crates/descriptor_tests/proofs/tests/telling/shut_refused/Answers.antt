use Rattle.std.proofs.Common.{inl, inr}
use Rattle.descriptor_tests.proofs.TellingLemmas.{never_shut, of_fault}
use Rattle.descriptor_tests.proofs.tests.telling.shut_refused.Goals as goal

pub returns : goal.returns
returns g c = elim c.close_write.ensures.shut [
  | inl kept ↦ of_fault c.close_write.result kept.0 kept.2
  | inr used ↦ never_shut c.close_write.result used.did
]
