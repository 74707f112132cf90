use Rattle.std.proofs.Common.{refl}
use Rattle.core_tests.proofs.AcceptLemmas.{in_turn}
use Rattle.core_tests.proofs.tests.accepts.telling.resumed_and_delivered.Goals as goal

pub returns : goal.returns
returns c =
    let run = c.resume.ensures in
    record {
      delivered = λ whole. in_turn _ _ _ _ (λ w. refl) (λ calls told. told whole) c.requires _ _
          c.resume.result run.waits run.again run.pauses run.ended;
      waits = λ is. run.blocked is;
    }
