use Rattle.std.proofs.Common.{inr, refl, rules}
use Rattle.fd_descriptor.proofs.HalfLemmas.{uses_so}
use Rattle.fd_descriptor.proofs.descriptor.FdHandle.close_write.Goals as goal

pub returns-in-Ok-clause-shut : goal.returns-in-Ok-clause-shut
returns-in-Ok-clause-shut g c =
    inr (uses_so _ _ _ _ _ _ (λ first last told. search rules) c.in_ok-with_half.ensures.used)

pub returns-in-Err-clause-shut : goal.returns-in-Err-clause-shut
returns-in-Err-clause-shut g c =
    inr (uses_so _ _ _ _ _ _ (λ first last told. search rules) c.in_ok-with_half.ensures.used)

pub returns-in-Err-clause-entry : goal.returns-in-Err-clause-entry
returns-in-Err-clause-entry g c =
    record {
      keeps = record { same = refl; marks = c.with_half.ensures.marks };
      no_close = c.with_half.ensures.no_close;
      no_drain = c.with_half.ensures.no_drain;
      heard = c.with_half.ensures.heard;
      closed = search rules;
      draining = search rules;
      allowed = inr tt;
    }
